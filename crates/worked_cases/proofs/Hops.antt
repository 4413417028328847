-- The open jaws and the unit inside another one.
use Rattle.std.proofs.Common.{◌≡◌, ◌≢◌, ℕ, ℤ, Bool, false, true, pos, ◌∷◌, List, [], map, filter, Some, ◌≤◌, refl, sym, ap, ◌∙◌, ◌==◌, arith, inl, inr}
use Rattle.std.proofs.lemmas.Int.{ints}
use Rattle.fare_law.specs.declared.fares.Fare.{Fare}
use Rattle.fare_law.specs.declared.fares.FareKind.{FareKind}
use Rattle.fare_law.specs.declared.fares.FareKind.TheVariants.{R}
use Rattle.fare_law.specs.declared.flights.Flight.{Flight}
use Rattle.fare_law.specs.declared.names.Carrier.{Carrier}
use Rattle.fare_law.specs.declared.names.Place.{Place}
use Rattle.fare_law.specs.declared.requests.Request.{Request}
use Rattle.fare_law.specs.declared.rules.UnitKind.{UnitKind}
use Rattle.fare_law.specs.declared.rules.UnitKind.TheVariants.{OneWay, RoundTrip, OpenJaw}
use Rattle.fare_law.specs.declared.tickets.Piece.{Piece}
use Rattle.fare_law.specs.Best.{Costs}
use Rattle.fare_law.specs.Book.{Book, connect, flight_at, free_rule, live_fare, live_rule, seats}
use Rattle.fare_law.specs.Lawful.{Lawful, unit_of}
use Rattle.fare_law.specs.Lists.{Each}
use Rattle.fare_law.specs.declared.fares.FareKey.{FareKey}
use Rattle.fare_law.specs.Parts.{Filed, Numbers, StandsFor}
use Rattle.fare_law.specs.Units.{FareHolds, MayStand, UnitLawful}
use Rattle.unit_labels.specs.Labels.{LabelLaws, Opens, Closes}
use Rattle.worked_cases.specs.Journeys.{boston_fare, chicago_fare, hop, inner_book, inner_legs, inner_request, far_fare, jaw_book, jaw_legs, jaw_request, london_fare, paris_fare}
use Rattle.worked_cases.specs.Makers.{bos, chi, lon, nyc, par, flight_of, piece_of, qx, ticket_of}
use Rattle.worked_cases.proofs.Pairs.{differ, gapped}
use Rattle.worked_cases.proofs.Tickets.{FarApart, LegHolds, are_parts, legs_lawful, one_seated, parts_of}

-- a leg on a fare of QX in this book, on the rule with no category
hop_holds : (b : Book) (q : Request) (n number : ℕ) (from to : Place) (day : ℕ) (fare : Fare) (reverse : Bool) (unit : ℕ) → flight_at b n ≡ Some (flight_of number from to day)
    → live_fare b fare.key ≡ Some fare → live_rule b fare.key.carrier fare.rule ≡ Some free_rule → qx ≡ fare.key.carrier
    → Filed (piece_of q (hop n number from to day fare reverse unit)) → from ≢ to → q.party ≤ seats b (flight_of number from to day) fare.class
    → LegHolds b q (hop n number from to day fare reverse unit)
hop_holds b q n number from to day fare reverse unit known live rule carrier filed apart seated = record {
  known = known;
  fare = live;
  rule = rule;
  filed = filed;
  from = refl;
  to = refl;
  apart = apart;
  window = (omega (arith, ints), omega (arith, ints));
  lawful = record {
    shape = record { few = omega arith; joined = tt; apart = ((apart, tt), (tt, tt)) };
    seated = one_seated b q.party fare.class (flight_of number from to day) seated;
    day_time = tt;
    flights = tt;
    stopovers = tt;
    transfers = carrier;
  };
}

-- the rule with no category asks nothing of a unit
hop_free : (kind : UnitKind) (first back last : ℤ) (ps : List Piece) (q : Request) (n number : ℕ) (from to : Place) (day : ℕ) (fare : Fare) (reverse : Bool) (unit : ℕ)
    → MayStand fare.kind kind → FareHolds kind first back last ps (piece_of q (hop n number from to day fare reverse unit))
hop_free kind first back last ps q n number from to day fare reverse unit stands =
    record { stands = stands; season = tt; advance = tt; travel = tt; by = tt; min_stay = λ h. tt; max_stay = λ h. tt; kind_allowed = tt; partners = tt }

jaw_out : (from to : Place) (fare : Fare) → live_fare (jaw_book from to fare) london_fare.key ≡ Some london_fare → LegHolds (jaw_book from to fare) (jaw_request from to fare) (hop 0 101 lon nyc 22341 london_fare false 1)
unfolding live_rule seats
jaw_out from to fare live =
    hop_holds (jaw_book from to fare) (jaw_request from to fare) 0 101 lon nyc 22341 london_fare false 1 refl live refl refl (refl, refl) (differ lon nyc 0 (λ e. omega (arith, e))) (omega arith)

boston_out : LegHolds (jaw_book bos lon boston_fare) (jaw_request bos lon boston_fare) (hop 0 101 lon nyc 22341 london_fare false 1)
unfolding live_fare
boston_out = jaw_out bos lon boston_fare refl

boston_back : LegHolds (jaw_book bos lon boston_fare) (jaw_request bos lon boston_fare) (hop 1 102 bos lon 22348 boston_fare true 1)
unfolding live_fare live_rule seats
boston_back =
    hop_holds (jaw_book bos lon boston_fare) (jaw_request bos lon boston_fare) 1 102 bos lon 22348 boston_fare true 1 refl refl refl refl (refl, refl) (differ bos lon 0 (λ e. omega (arith, e))) (omega arith)

paris_out : LegHolds (jaw_book nyc par paris_fare) (jaw_request nyc par paris_fare) (hop 0 101 lon nyc 22341 london_fare false 1)
unfolding live_fare
paris_out = jaw_out nyc par paris_fare refl

paris_back : LegHolds (jaw_book nyc par paris_fare) (jaw_request nyc par paris_fare) (hop 1 102 nyc par 22348 paris_fare true 1)
unfolding live_fare live_rule seats
paris_back =
    hop_holds (jaw_book nyc par paris_fare) (jaw_request nyc par paris_fare) 1 102 nyc par 22348 paris_fare true 1 refl refl refl refl (refl, refl) (differ nyc par 0 (λ e. omega (arith, e))) (omega arith)

boston_far : FarApart (jaw_book bos lon boston_fare) (jaw_legs bos lon boston_fare 1 1)
unfolding connect
boston_far = (omega (arith, ints), tt)

paris_far : FarApart (jaw_book nyc par paris_fare) (jaw_legs nyc par paris_fare 1 1)
unfolding connect
paris_far = (omega (arith, ints), tt)

jaw_kind : OpenJaw ≢ OneWay
jaw_kind e = cc

boston_unit : UnitLawful (unit_of 1 (parts_of (jaw_request bos lon boston_fare) (jaw_legs bos lon boston_fare 1 1)))
boston_unit =
    (OpenJaw, (refl, (refl, refl), (inr (differ bos nyc 0 (λ e. omega (arith, e)), refl), tt)), (hop_free OpenJaw _ _ _ _ (jaw_request bos lon boston_fare) 0 101 lon nyc 22341 london_fare false 1 jaw_kind, (hop_free OpenJaw _ _ _ _ (jaw_request bos lon boston_fare) 1 102 bos lon 22348 boston_fare true 1 jaw_kind, tt)))

paris_unit : UnitLawful (unit_of 1 (parts_of (jaw_request nyc par paris_fare) (jaw_legs nyc par paris_fare 1 1)))
paris_unit =
    (OpenJaw, (refl, (refl, refl), (inl (refl, differ par lon 0 (λ e. omega (arith, e))), tt)), (hop_free OpenJaw _ _ _ _ (jaw_request nyc par paris_fare) 0 101 lon nyc 22341 london_fare false 1 jaw_kind, (hop_free OpenJaw _ _ _ _ (jaw_request nyc par paris_fare) 1 102 nyc par 22348 paris_fare true 1 jaw_kind, tt)))

pub boston_lawful : LabelLaws → Lawful (ticket_of (jaw_legs bos lon boston_fare 1 1)) (jaw_book bos lon boston_fare) (jaw_request bos lon boston_fare)
boston_lawful laws =
    legs_lawful (jaw_book bos lon boston_fare) (jaw_request bos lon boston_fare) (hop 0 101 lon nyc 22341 london_fare false 1) (hop 1 102 bos lon 22348 boston_fare true 1 ∷ []) refl (boston_out, (boston_back, tt)) boston_far
    ((laws.runs (Opens ∷ Closes 0 ∷ []) (1 ∷ 1 ∷ [])).0 (refl, omega arith, (refl, refl))).0 (boston_unit, (boston_unit, tt)) (tt, (tt, tt))

pub boston_costs : Costs (ticket_of (jaw_legs bos lon boston_fare 1 1)) (jaw_book bos lon boston_fare) (jaw_request bos lon boston_fare) 35000
boston_costs = (parts_of (jaw_request bos lon boston_fare) (jaw_legs bos lon boston_fare 1 1), are_parts (jaw_book bos lon boston_fare) (jaw_request bos lon boston_fare) (jaw_legs bos lon boston_fare 1 1) (boston_out, (boston_back, tt)), refl)

pub paris_lawful : LabelLaws → Lawful (ticket_of (jaw_legs nyc par paris_fare 1 1)) (jaw_book nyc par paris_fare) (jaw_request nyc par paris_fare)
paris_lawful laws =
    legs_lawful (jaw_book nyc par paris_fare) (jaw_request nyc par paris_fare) (hop 0 101 lon nyc 22341 london_fare false 1) (hop 1 102 nyc par 22348 paris_fare true 1 ∷ []) refl (paris_out, (paris_back, tt)) paris_far
    ((laws.runs (Opens ∷ Closes 0 ∷ []) (1 ∷ 1 ∷ [])).0 (refl, omega arith, (refl, refl))).0 (paris_unit, (paris_unit, tt)) (tt, (tt, tt))

pub paris_costs : Costs (ticket_of (jaw_legs nyc par paris_fare 1 1)) (jaw_book nyc par paris_fare) (jaw_request nyc par paris_fare) 42000
paris_costs = (parts_of (jaw_request nyc par paris_fare) (jaw_legs nyc par paris_fare 1 1), are_parts (jaw_book nyc par paris_fare) (jaw_request nyc par paris_fare) (jaw_legs nyc par paris_fare 1 1) (paris_out, (paris_back, tt)), refl)

-- a component of one flight begins and ends where the flight does
sits : (b : Book) (sale : ℤ) (key : FareKey) (n : ℕ) (f : Flight) (fs : List Flight) (p : Piece) → flight_at b n ≡ Some f → Numbers b (n ∷ []) fs → StandsFor b sale key fs p → (p.begin ≡ f.from) × (p.end ≡ f.to)
sits b sale key n f [] p at ns s = absurd ns
sits b sale key n f (g ∷ h ∷ fs) p at ns s = absurd ns.1
sits b sale key n f (g ∷ []) p at ns s =
    let same = one_same (sym ns.0 ∙ at) in (s.begins.0 ∙ ap (λ x. x.from) same, s.ends.0 ∙ ap (λ x. x.to) same)
  where
    one_same : Some g ≡ Some f → g ≡ f
    one_same e = cc

-- back from the one place to the other, neither of which the way there touches: no labels make it a ticket
pub far_refused : (u v : ℕ) → Lawful (ticket_of (jaw_legs bos par far_fare u v)) (jaw_book bos par far_fare) (jaw_request bos par far_fare) → ⊥
unfolding live_fare
far_refused u v ([], m, law, some) = m
far_refused u v (p ∷ [], m, law, some) = m.1
far_refused u v (p ∷ r ∷ s ∷ ps, m, law, some) = m.1.1
far_refused u v (p ∷ r ∷ [], m, law, some) =
    let there = sits (jaw_book bos par far_fare) (pos 22311) london_fare.key 0 (flight_of 101 lon nyc 22341) p.flights p.piece refl m.0.flights m.0.stands in
    let back = sits (jaw_book bos par far_fare) (pos 22311) far_fare.key 1 (flight_of 102 bos par 22348) r.flights r.piece refl m.1.0.flights m.1.0.stands in
    gapped p r (kind p.piece.fare m.0.stands.fare) (λ e. differ bos nyc 0 (λ h. omega (arith, h)) (sym back.0 ∙ e ∙ there.1)) (λ e. differ par lon 0 (λ h. omega (arith, h)) (sym back.1 ∙ e ∙ there.0)) (r.unit == p.unit) refl law.units.0
  where
    kind : (f : Fare) → Some london_fare ≡ Some f → f.kind ≡ R
    kind f e = cc

inner_holds : Each (LegHolds inner_book inner_request) inner_legs
unfolding live_fare live_rule seats
inner_holds = (
  hop_holds inner_book inner_request 0 101 lon nyc 22341 london_fare false 1 refl refl refl refl (refl, refl) (differ lon nyc 0 (λ e. omega (arith, e))) (omega arith),
  (
    hop_holds inner_book inner_request 1 102 nyc chi 22348 chicago_fare false 2 refl refl refl refl (refl, refl) (differ nyc chi 0 (λ e. omega (arith, e))) (omega arith),
    (
      hop_holds inner_book inner_request 2 103 chi nyc 22355 chicago_fare true 2 refl refl refl refl (refl, refl) (differ chi nyc 0 (λ e. omega (arith, e))) (omega arith),
      (hop_holds inner_book inner_request 3 104 nyc lon 22362 london_fare true 1 refl refl refl refl (refl, refl) (differ nyc lon 0 (λ e. omega (arith, e))) (omega arith), tt),
    ),
  ),
)

inner_far : FarApart inner_book inner_legs
unfolding connect
inner_far = (omega (arith, ints), (omega (arith, ints), (omega (arith, ints), tt)))

round_kind : RoundTrip ≢ OneWay
round_kind e = cc

outer_unit : UnitLawful (unit_of 1 (parts_of inner_request inner_legs))
outer_unit =
    (RoundTrip, (refl, (refl, refl), ((refl, refl), tt)), (hop_free RoundTrip _ _ _ _ inner_request 0 101 lon nyc 22341 london_fare false 1 round_kind, (hop_free RoundTrip _ _ _ _ inner_request 3 104 nyc lon 22362 london_fare true 1 round_kind, tt)))

inner_unit : UnitLawful (unit_of 2 (parts_of inner_request inner_legs))
inner_unit =
    (RoundTrip, (refl, (refl, refl), ((refl, refl), tt)), (hop_free RoundTrip _ _ _ _ inner_request 1 102 nyc chi 22348 chicago_fare false 2 round_kind, (hop_free RoundTrip _ _ _ _ inner_request 2 103 chi nyc 22355 chicago_fare true 2 round_kind, tt)))

pub inner_lawful : LabelLaws → Lawful (ticket_of inner_legs) inner_book inner_request
inner_lawful laws =
    legs_lawful inner_book inner_request (hop 0 101 lon nyc 22341 london_fare false 1)
    (hop 1 102 nyc chi 22348 chicago_fare false 2 ∷ hop 2 103 chi nyc 22355 chicago_fare true 2 ∷ hop 3 104 nyc lon 22362 london_fare true 1 ∷ []) refl inner_holds inner_far
    ((laws.runs (Opens ∷ Opens ∷ Closes 1 ∷ Closes 0 ∷ []) (1 ∷ 2 ∷ 2 ∷ 1 ∷ [])).0 (refl, omega arith, (refl, omega arith, (refl, (refl, refl))))).0
    (outer_unit, (inner_unit, (inner_unit, (outer_unit, tt)))) (tt, (tt, (tt, (tt, tt))))

pub inner_costs : Costs (ticket_of inner_legs) inner_book inner_request 50000
inner_costs = (parts_of inner_request inner_legs, are_parts inner_book inner_request inner_legs inner_holds, refl)
