-- Places that a tail calls at, looked at one by one, and by marks.
use Rattle.std.proofs.Common.{◌≡◌, ◌≢◌, ℕ, suc, ◌+◌, ◌^◌, ◌<◌, List, [], ◌∷◌, length, take, get_or, bit_and, refl, sym, subst, ◌∙◌, inl, arith}
use Rattle.std.proofs.lemmas.Nat.{and_comm}
use Rattle.fare_law.specs.declared.flights.Flight.{Flight}
use Rattle.fare_law.specs.declared.names.Place.{Place}
use Rattle.fare_law.specs.Book.{Book}
use Rattle.fare_law.specs.Lists.{Each, IsIn}
use Rattle.fare_law.specs.Parts.{Numbers}
use Rattle.flight_paths.specs.Marks.{HasBits, place_bit}
use Rattle.flight_paths.specs.Ways.{arrivals_of}
use Rattle.flight_paths.proofs.Marking.{marks_apart}
use Rattle.flight_paths.proofs.Places.{arrival_next, no_flight}
use Rattle.fare_ends.proofs.BitFacts.{own_class}
use Rattle.joint_paths.proofs.Ranged.{in_take}
use Rattle.law_lemmas.proofs.EachOne.{each_in, each_more}
use Rattle.law_lemmas.proofs.Members.{in_right}

one_more : (i : ℕ) → suc i ≡ i + 1
one_more i = omega arith

module _ (b : Book) (ns : List ℕ) (fs : List Flight) (m : Numbers b ns fs) (i : ℕ) (lt : i < length ns) where
  -- where the flight of a number arrives
  abbrev pub arrival : Place
  arrival = (get_or b.timetable.flights (get_or ns i 0) no_flight).to

  pub arrives_at : IsIn arrival (arrivals_of fs)
  arrives_at = in_take (suc i) (arrivals_of fs) arrival (subst (IsIn arrival) (sym (arrival_next b.timetable.flights ns fs i 0 no_flight m lt)) (in_right arrival (take i (arrivals_of fs)) (arrival ∷ []) (inl refl)))

  -- one more
  pub arrivals_more : (P : Place → Type 0) → Each P (take i (arrivals_of fs)) → P arrival → Each P (take (i + 1) (arrivals_of fs))
  arrivals_more P h p = subst (λ k. Each P (take k (arrivals_of fs))) (one_more i) (subst (Each P) (sym (arrival_next b.timetable.flights ns fs i 0 no_flight m lt)) (each_more P (take i (arrivals_of fs)) arrival h p))

-- a place that is called at isn't apart from all
pub called_not_apart : (place other : Place) (ps : List Place) → IsIn other ps → place ≡ other → Each (λ p. place ≢ p) ps → ⊥
called_not_apart place other ps i e h = each_in (λ p. place ≢ p) ps other h i e

-- the mark of a place shares no bit with those of others
pub mark_apart : (place : Place) (mark tail : ℕ) (ps : List Place) → mark ≡ 2 ^ place_bit place → HasBits tail ps → bit_and mark tail ≡ 0 → Each (λ p. place ≢ p) ps
mark_apart place mark tail ps e h z = (marks_apart tail mark ps (place ∷ []) h (subst (λ m. HasBits m (place ∷ [])) (sym e) (own_class (place_bit place), tt)) (and_comm tail mark ∙ z)).0
