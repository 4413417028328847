-- Where a component may stop over: the test on each flight and the next says what category 8 asks.
use Rattle.std.proofs.Common.{◌≡◌, List, [], ◌∷◌, Bool, true, false, not, ◌||◌, refl, drop}
use Rattle.std.specs.Bool.{Decides}
use Rattle.std.specs.List.{zip, list_all, list_any, Contains}
use Rattle.std.proofs.lemmas.Bool.Decides.{Decides-and, Decides-by_or, Decides-like}
use Rattle.std.proofs.lemmas.List.Elements.{Contains-from_at, at_from_Contains}
use Rattle.fare_law.specs.declared.flights.Flight.{Flight}
use Rattle.fare_law.specs.declared.names.Place.{Place}
use Rattle.fare_law.specs.Book.{same_place}
use Rattle.fare_law.specs.Parts.{is_stopover}
use Rattle.fare_rules.specs.Permits.{permits_stop, StopsOnlyAt}
use Rattle.law_lemmas.proofs.Names.{places_told}
use Rattle.law_lemmas.proofs.Tests.{false_true}

place_listed : (places : List Place) (x : Place) → Decides (list_any (λ p. same_place p x) places) (Contains places x)
place_listed places x =
    Decides-like _ (Contains-from_at places x) (at_from_Contains places x)
    (Decides-by_or (λ p. same_place p x) (λ p. p ≡ x) (list_any (λ p. same_place p x)) (λ p. places_told p x) refl (λ p ps. refl) places)

only_if : {P : Type 0} (b r : Bool) → Decides r P → Decides (not b || r) (b ≡ true → P)
only_if true r d = (λ t _. d.0 t, λ h. d.1 (h refl))
only_if false r d = (λ _ t. absurd (false_true t), λ _. refl)

pub stops_told : (places : List Place) (fs : List Flight) → Decides (list_all (λ (p : Flight × Flight). permits_stop places p.0 p.1) (zip fs (drop 1 fs))) (StopsOnlyAt places fs)
unfolding permits_stop StopsOnlyAt
stops_told places [] = (λ _. tt, λ _. refl)
stops_told places (f ∷ []) = (λ _. tt, λ _. refl)
stops_told places (f ∷ g ∷ gs) =
    Decides-and _ _ (only_if (is_stopover f g) _ (place_listed places f.to)) (stops_told places (g ∷ gs))
