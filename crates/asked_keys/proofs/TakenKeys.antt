-- The keys of a way: with the sheet that is filed over its flights, or in reverse.
use Rattle.std.proofs.Common.{◌≡◌, ◌≢◌, ◌⊎◌, ◌≤◌, Bool, true, false, List, [], ◌∷◌, length, All, MatchBool, Some, refl, sym, ap, subst, inl, inr}
use Rattle.fare_law.specs.declared.fares.FareKey.{FareKey}
use Rattle.fare_law.specs.declared.flights.Flight.{Flight}
use Rattle.fare_law.specs.declared.market.OfferKey.{OfferKey}
use Rattle.fare_law.specs.declared.names.Place.{Place}
use Rattle.fare_law.specs.declared.requests.Request.{Request}
use Rattle.fare_law.specs.Book.{Book}
use Rattle.fare_law.specs.Limits.{IsFlight}
use Rattle.fare_law.specs.Lists.{OnFirst, OnLast}
use Rattle.flight_paths.specs.declared.positions.Path.{Path}
use Rattle.residual_keys.specs.AskedKeys.{IsKey, KeyOfFlights}
use Rattle.residual_keys.specs.declared.way.Way.{Way}
use Rattle.residual_keys.specs.Gathered.{AreLegs, IsPathOf}
use Rattle.residual_keys.specs.Residuals.{State}
use Rattle.residual_keys.specs.Steps.{MarketOver}
use Rattle.residual_keys.specs.WaysOf.{IsWayOf}
use Rattle.residual_keys.proofs.Components.{on_ends}
use Rattle.residual_keys.proofs.Offered.{filed_market}
use Rattle.residual_keys.proofs.Offering.{path_some}
use Rattle.residual_keys.proofs.Runs.{flies_numbers}
use Rattle.asked_keys.specs.Asking.{IsFiledKey, IsWay}
use Rattle.law_lemmas.proofs.LawFacts.{on_last_to}

last_such : (P : Flight → Type 0) (fs : List Flight) → OnLast P fs → (z : Flight) × P z × OnLast (λ x. z ≡ x) fs
last_such P [] h = absurd h
last_such P (f ∷ []) h = (f, h, refl)
last_such P (f ∷ g ∷ fs) h = last_such P (g ∷ fs) h

-- the market over flights lies between the first and the last of them
pub market_between : (reverse : Bool) (fs : List Flight) (first last : Flight) (from to : Place) → OnFirst (λ x. first ≡ x) fs → OnLast (λ x. last ≡ x) fs
    → MatchBool reverse ((from ≡ last.to) × (to ≡ first.from)) ((from ≡ first.from) × (to ≡ last.to)) → MarketOver reverse fs from to
market_between reverse fs first last from to = on_ends (λ f z. MatchBool reverse ((from ≡ z.to) × (to ≡ f.from)) ((from ≡ f.from) × (to ≡ z.to))) first last fs

-- a key of flights is one with the sheet that is filed over them, or in reverse where a unit is open
pub key_filed : (b : Book) (q : Request) (r : State) (fs : List Flight) (key : OfferKey) → KeyOfFlights b q r fs key → IsFiledKey b q fs false key ⊎ ((r.units ≢ []) × IsFiledKey b q fs true key)
key_filed b q r [] key h = absurd h
key_filed b q r (f ∷ fs) key h =
    let x = last_such (λ z. IsKey b q (f ∷ fs) f.from z.to key ⊎ ((r.units ≢ []) × IsKey b q (f ∷ fs) z.to f.from key)) (f ∷ fs) h in
    let z = x.0 in
    elim x.1 [
      | inl a ↦ inl (f.from, z.to, on_last_to (λ y. z ≡ y) (λ y. (f.from ≡ f.from) × (z.to ≡ y.to)) (f ∷ fs) (λ y e. (refl, ap (λ (v : Flight). v.to) e)) x.2, a)
      | inr a ↦ inr (a.0, (z.to, f.from, on_last_to (λ y. z ≡ y) (λ y. (z.to ≡ y.to) × (f.from ≡ f.from)) (f ∷ fs) (λ y e. (ap (λ (v : Flight). v.to) e, refl)) x.2, a.1))
    ]

-- the sheet of a key that is filed over flights is the one of their market
pub key_of_market : (b : Book) (q : Request) (fs : List Flight) (reverse : Bool) (from to : Place) (key : OfferKey) → MarketOver reverse fs from to → IsFiledKey b q fs reverse key → IsKey b q fs from to key
key_of_market b q fs reverse from to key over k =
    let own : FareKey = record { carrier = record { 0 = [] }; from = k.0; to = k.1; basis = record { 0 = [] } } in
    let same = filed_market reverse fs from to own over k.2 in
    subst (λ p. IsKey b q fs p to key) same.0 (subst (λ p. IsKey b q fs k.0 p key) same.1 k.3)

-- a way has a flight
pub way_some : (b : Book) (q : Request) (way : Way) → IsWay b q way → 1 ≤ length way.flights
way_some b q way (r, is) = path_some b q r way.path way.flights is.path (flies_numbers b q.slices (Some r.at) way.path.after way.path.flights way.flights is.path.flies)

-- what is made of a path is its way
pub way_of : (b : Book) (q : Request) (r : State) (path : Path) (fs : List Flight) (way : Way) → way.path ≡ path → way.flights ≡ fs → All IsFlight way.flights → AreLegs b q way.flights way.legs → IsPathOf b q r path fs → IsWayOf b q r way
way_of b q r path fs way e f limits legs is = record {
  path = subst (λ p. IsPathOf b q r p way.flights) (sym e) (subst (λ gs. IsPathOf b q r path gs) (sym f) is);
  limits = limits;
  legs = legs;
}
