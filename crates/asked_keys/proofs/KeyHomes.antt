-- The home of the keys over a path.
use Rattle.std.proofs.Common.{◌≡◌, ℕ, zero, suc, ◌+◌, ◌*◌, ◌<◌, ◌≤◌, List, [], ◌∷◌, drop, get_or, length, Some, slice_get, ap, refl, sym, subst, inl, inr, arith}
use Rattle.asked_keys.proofs.TakenKeys.{key_filed}
use Rattle.fare_component.specs.Homes.{flight_number, weighed}
use Rattle.fare_component.proofs.Weighing.{weighed_more}
use Rattle.fare_law.specs.declared.flights.Flight.{Flight}
use Rattle.fare_law.specs.declared.market.OfferKey.{OfferKey}
use Rattle.fare_law.specs.declared.requests.Request.{Request}
use Rattle.fare_law.specs.declared.sheets.Leg.{Leg}
use Rattle.fare_law.specs.Book.{Book}
use Rattle.fare_law.specs.Lists.{Matched}
use Rattle.fare_law.specs.Offers.{flights_of}
use Rattle.fare_law.specs.Parts.{Numbers}
use Rattle.flight_paths.specs.declared.positions.Path.{Path}
use Rattle.residual_keys.specs.AskedKeys.{IsLeg, KeyOfFlights}
use Rattle.residual_keys.specs.Gathered.{IsPathOf}
use Rattle.residual_keys.specs.Residuals.{State}
use Rattle.residual_keys.proofs.Runs.{flies_numbers}

-- the leg at a place has the flight of the number there
leg_at : (b : Book) (ns : List ℕ) (legs : List Leg) (i : ℕ) → Numbers b ns (flights_of legs) → i < length ns → (leg : Leg) × (leg ≡ get_or legs i leg) × (i < length legs) × (slice_get b.timetable.flights (get_or ns i 0) ≡ Some leg.flight)
leg_at b [] legs i h lt = absurd (omega (arith, lt))
leg_at b (n ∷ ns) [] i h lt = absurd h
leg_at b (n ∷ ns) (l ∷ ls) zero h lt = (l, refl, omega arith, h.0)
leg_at b (n ∷ ns) (l ∷ ls) (suc i) h lt = let r = leg_at b ns ls i h.1 (omega (arith, lt)) in (r.0, r.1, omega (arith, r.2), r.3)

-- one more flight
pub weighed_next : (b : Book) (all : List Flight) (ns : List ℕ) (i times sum more : ℕ) → all ≡ b.timetable.flights → i < length ns → ((f : Flight) → slice_get all (get_or ns i 0) ≡ Some f → more ≡ times * flight_number f)
    → (legs : List Leg) → Numbers b ns (flights_of legs) → sum + weighed times (drop i legs) ≡ weighed 1 legs → (sum + more) + weighed (times + 1) (drop (i + 1) legs) ≡ weighed 1 legs
weighed_next b all ns i times sum more same lt is legs h e =
    let r = leg_at b ns legs i h lt in
    subst (λ k. (sum + k) + weighed (times + 1) (drop (i + 1) legs) ≡ weighed 1 legs) (sym (is r.0.flight (subst (λ fs. slice_get fs (get_or ns i 0) ≡ Some r.0.flight) (sym same) r.3)))
    (weighed_more legs i times sum r.0 r.2 r.1 e)

no_more : (b : Book) (ns : List ℕ) (legs : List Leg) (i : ℕ) → Numbers b ns (flights_of legs) → length ns ≤ i → drop i legs ≡ []
no_more b [] [] zero h le = refl
no_more b [] [] (suc i) h le = refl
no_more b [] (l ∷ ls) i h le = absurd h
no_more b (n ∷ ns) [] i h le = absurd h
no_more b (n ∷ ns) (l ∷ ls) zero h le = absurd (omega (arith, le))
no_more b (n ∷ ns) (l ∷ ls) (suc i) h le = no_more b ns ls i h.1 (omega (arith, le))

-- all flights
pub weighed_all : (b : Book) (ns : List ℕ) (legs : List Leg) (i times sum : ℕ) → Numbers b ns (flights_of legs) → length ns ≤ i → sum + weighed times (drop i legs) ≡ weighed 1 legs → sum ≡ weighed 1 legs
weighed_all b ns legs i times sum h le e = let none : weighed times (drop i legs) ≡ 0 = ap (weighed times) (no_more b ns legs i h le) in omega (arith, e, none)

legs_flown : (b : Book) (party : ℕ) (fs : List Flight) (legs : List Leg) → Matched (IsLeg b party) fs legs → flights_of legs ≡ fs
legs_flown b party [] [] h = refl
legs_flown b party [] (l ∷ ls) h = absurd h
legs_flown b party (f ∷ fs) [] h = absurd h
legs_flown b party (f ∷ fs) (l ∷ ls) h = let first = h.0.flight in let rest = legs_flown b party fs ls h.1 in λ i. first i ∷ rest i

-- a key over the flights of a path has them as legs
pub key_numbers : (b : Book) (q : Request) (r : State) (path : Path) (fs : List Flight) (key : OfferKey) → IsPathOf b q r path fs → KeyOfFlights b q r fs key → Numbers b path.flights (flights_of key.legs)
key_numbers b q r path fs key is k =
    let flown : flights_of key.legs ≡ fs = elim (key_filed b q r fs key k) [ inl x ↦ legs_flown b q.party fs key.legs x.3.0 | inr x ↦ legs_flown b q.party fs key.legs x.1.3.0 ] in
    subst (Numbers b path.flights) (sym flown) (flies_numbers b q.slices (Some r.at) path.after path.flights fs is.flies)
