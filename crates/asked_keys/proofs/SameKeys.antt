-- What keys a residual has: those of its position, and of whether a unit is open.
use Rattle.std.proofs.Common.{◌≡◌, ◌≢◌, ◌⊎◌, List, [], ◌∷◌, subst, inl, inr}
use Rattle.fare_law.specs.declared.flights.Flight.{Flight}
use Rattle.fare_law.specs.declared.market.OfferKey.{OfferKey}
use Rattle.fare_law.specs.declared.requests.Request.{Request}
use Rattle.fare_law.specs.Book.{Book}
use Rattle.flight_paths.specs.Positions.{IsPath}
use Rattle.residual_keys.specs.AskedKeys.{IsKey, KeyOf, KeyOfFlights}
use Rattle.residual_keys.specs.Residuals.{State}
use Rattle.law_lemmas.proofs.Ends.{on_last}

second_too : {A B C D : Type 0} → (C → D) → A ⊎ (C × B) → A ⊎ (D × B)
second_too more (inl is) = inl is
second_too more (inr is) = inr (more is.0, is.1)

-- the keys of flights, where a unit is open also in the other
keys_of_flights : (b : Book) (q : Request) (x y : State) → (x.units ≢ [] → y.units ≢ []) → (fs : List Flight) (key : OfferKey) → KeyOfFlights b q x fs key → KeyOfFlights b q y fs key
keys_of_flights b q x y held [] key h = absurd h
keys_of_flights b q x y held (f ∷ fs) key h =
    on_last (λ z. IsKey b q (f ∷ fs) f.from z.to key ⊎ ((x.units ≢ []) × IsKey b q (f ∷ fs) z.to f.from key)) (λ z. IsKey b q (f ∷ fs) f.from z.to key ⊎ ((y.units ≢ []) × IsKey b q (f ∷ fs) z.to f.from key))
    (λ z. second_too held) (f ∷ fs) h

-- at one position, with a unit open in both or in none, the keys are the same
pub same_keys : (b : Book) (q : Request) (x y : State) → x.at ≡ y.at → (x.units ≢ [] → y.units ≢ []) → (key : OfferKey) → KeyOf b q x key → KeyOf b q y key
same_keys b q x y at held key k = record {
  numbers = k.numbers;
  flights = k.flights;
  next = k.next;
  path = subst (λ p. IsPath b q.slices p k.numbers k.flights k.next) at k.path;
  of = keys_of_flights b q x y held k.flights key k.of;
}
