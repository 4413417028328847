-- The one way, the round trip and the circle.
use Rattle.std.proofs.Common.{◌≡◌, ◌≢◌, true, false, ◌∷◌, [], map, Some, refl, ap, subst, arith, get_or, ◌∙◌, ◌==◌, cond, eq-eqb, ne_eqb}
use Rattle.std.proofs.lemmas.Int.{ints}
use Rattle.fare_law.specs.declared.fares.FareKind.TheVariants.{R}
use Rattle.fare_law.specs.declared.rules.UnitKind.TheVariants.{OneWay, RoundTrip, OpenJaw, Circle}
use Rattle.fare_law.specs.Book.{free_rule, seats, connect, live_fare, live_rule}
use Rattle.fare_law.specs.declared.fares.Fare.{Fare}
use Rattle.fare_law.specs.declared.tickets.Piece.{Piece}
use Rattle.fare_law.specs.Lawful.{Lawful, unit_of}
use Rattle.fare_law.specs.Units.{MayStand, UnitLawful}
use Rattle.fare_law.specs.Best.{Costs}
use Rattle.unit_labels.specs.Labels.{LabelLaws, Alone, Opens, GoesOn, Closes}
use Rattle.worked_cases.specs.Cases.{one_way_legs, one_way_book, one_way_request, round_legs, leg, out_flight, back_flight, one_way_fare, round_fare, no_stops, round_book, round_request, circle_legs, circle_book, circle_request}
use Rattle.worked_cases.specs.Makers.{lon, nyc, par, rom, ticket_of, flight_of, fare_of}
use Rattle.worked_cases.proofs.Pairs.{differ, parted}
use Rattle.worked_cases.proofs.Tickets.{LegHolds, one_seated, FarApart, parts_of, are_parts, legs_lawful}

lon_nyc : lon ≢ nyc
lon_nyc = differ lon nyc 0 (λ e. omega (arith, e))

lon_par : lon ≢ par
lon_par = differ lon par 0 (λ e. omega (arith, e))

nyc_lon : nyc ≢ lon
nyc_lon = differ nyc lon 0 (λ e. omega (arith, e))

par_rom : par ≢ rom
par_rom = differ par rom 0 (λ e. omega (arith, e))

rom_nyc : rom ≢ nyc
rom_nyc = differ rom nyc 0 (λ e. omega (arith, e))

one_way_leg : LegHolds one_way_book one_way_request (leg 0 out_flight one_way_fare free_rule false 1 lon nyc 22341)
unfolding live_fare live_rule seats
one_way_leg = record {
  known = refl;
  fare = refl;
  rule = refl;
  filed = (refl, refl);
  from = refl;
  to = refl;
  apart = lon_nyc;
  window = (omega (arith, ints), omega (arith, ints));
  lawful = record {
    shape = record { few = omega arith; joined = tt; apart = ((lon_nyc, tt), (tt, tt)) };
    seated = one_seated one_way_book 1 24 out_flight (omega arith);
    day_time = tt;
    flights = tt;
    stopovers = tt;
    transfers = refl;
  };
}

pub one_way_lawful : LabelLaws → Lawful (ticket_of one_way_legs) one_way_book one_way_request
one_way_lawful laws =
    legs_lawful one_way_book one_way_request (leg 0 out_flight one_way_fare free_rule false 1 lon nyc 22341) [] refl (one_way_leg, tt) tt ((laws.runs (Alone ∷ []) (1 ∷ [])).0 (refl, refl)).0
    ((OneWay, (refl, refl), (record { stands = tt; season = tt; advance = tt; travel = tt; by = tt; min_stay = λ h. tt; max_stay = λ h. tt; kind_allowed = tt; partners = tt }, tt)), tt)
    (tt, tt)

pub one_way_costs : Costs (ticket_of one_way_legs) one_way_book one_way_request 20000
one_way_costs = (parts_of one_way_request one_way_legs, are_parts one_way_book one_way_request one_way_legs (one_way_leg, tt), refl)

out_leg : LegHolds round_book round_request (leg 0 out_flight round_fare free_rule false 1 lon nyc 22341)
unfolding live_fare live_rule seats
out_leg = record {
  known = refl;
  fare = refl;
  rule = refl;
  filed = (refl, refl);
  from = refl;
  to = refl;
  apart = lon_nyc;
  window = (omega (arith, ints), omega (arith, ints));
  lawful = record {
    shape = record { few = omega arith; joined = tt; apart = ((lon_nyc, tt), (tt, tt)) };
    seated = one_seated round_book 1 24 out_flight (omega arith);
    day_time = tt;
    flights = tt;
    stopovers = tt;
    transfers = refl;
  };
}

back_leg : LegHolds round_book round_request (leg 1 back_flight round_fare free_rule true 1 nyc lon 22348)
unfolding live_fare live_rule seats
back_leg = record {
  known = refl;
  fare = refl;
  rule = refl;
  filed = (refl, refl);
  from = refl;
  to = refl;
  apart = nyc_lon;
  window = (omega (arith, ints), omega (arith, ints));
  lawful = record {
    shape = record { few = omega arith; joined = tt; apart = ((nyc_lon, tt), (tt, tt)) };
    seated = one_seated round_book 1 24 back_flight (omega arith);
    day_time = tt;
    flights = tt;
    stopovers = tt;
    transfers = refl;
  };
}

round_far : FarApart round_book (round_legs 1 1)
unfolding connect
round_far = (omega (arith, ints), tt)

round_kind : RoundTrip ≢ OneWay
round_kind e = cc

pub round_lawful : LabelLaws → Lawful (ticket_of (round_legs 1 1)) round_book round_request
round_lawful laws =
    legs_lawful round_book round_request (leg 0 out_flight round_fare free_rule false 1 lon nyc 22341) (leg 1 back_flight round_fare free_rule true 1 nyc lon 22348 ∷ []) refl (out_leg, (back_leg, tt)) round_far ((laws.runs (Opens ∷ Closes 0 ∷ []) (1 ∷ 1 ∷ [])).0 (refl, omega arith, (refl, refl))).0
    ((RoundTrip, (refl, (refl, refl), ((refl, refl), tt)), (record { stands = round_kind; season = tt; advance = tt; travel = tt; by = tt; min_stay = λ h. tt; max_stay = λ h. tt; kind_allowed = tt; partners = tt }, (record { stands = round_kind; season = tt; advance = tt; travel = tt; by = tt; min_stay = λ h. tt; max_stay = λ h. tt; kind_allowed = tt; partners = tt }, tt))), ((RoundTrip, (refl, (refl, refl), ((refl, refl), tt)), (record { stands = round_kind; season = tt; advance = tt; travel = tt; by = tt; min_stay = λ h. tt; max_stay = λ h. tt; kind_allowed = tt; partners = tt }, (record { stands = round_kind; season = tt; advance = tt; travel = tt; by = tt; min_stay = λ h. tt; max_stay = λ h. tt; kind_allowed = tt; partners = tt }, tt))), tt))
    (tt, (tt, tt))

pub round_costs : Costs (ticket_of (round_legs 1 1)) round_book round_request 40000
round_costs = (parts_of round_request (round_legs 1 1), are_parts round_book round_request (round_legs 1 1) (out_leg, (back_leg, tt)), refl)

circle_leg0 : LegHolds circle_book circle_request (leg 0 (flight_of 1 lon par 22341) (fare_of lon par 65 R 20000 1) no_stops false 1 lon par 22341)
unfolding live_fare live_rule seats
circle_leg0 = record {
  known = refl;
  fare = refl;
  rule = refl;
  filed = (refl, refl);
  from = refl;
  to = refl;
  apart = lon_par;
  window = (omega (arith, ints), omega (arith, ints));
  lawful = record {
    shape = record { few = omega arith; joined = tt; apart = ((lon_par, tt), (tt, tt)) };
    seated = one_seated circle_book 1 24 (flight_of 1 lon par 22341) (omega arith);
    day_time = tt;
    flights = tt;
    stopovers = (omega arith, tt);
    transfers = refl;
  };
}

circle_leg1 : LegHolds circle_book circle_request (leg 1 (flight_of 2 par rom 22348) (fare_of par rom 66 R 12000 1) no_stops false 1 par rom 22348)
unfolding live_fare live_rule seats
circle_leg1 = record {
  known = refl;
  fare = refl;
  rule = refl;
  filed = (refl, refl);
  from = refl;
  to = refl;
  apart = par_rom;
  window = (omega (arith, ints), omega (arith, ints));
  lawful = record {
    shape = record { few = omega arith; joined = tt; apart = ((par_rom, tt), (tt, tt)) };
    seated = one_seated circle_book 1 24 (flight_of 2 par rom 22348) (omega arith);
    day_time = tt;
    flights = tt;
    stopovers = (omega arith, tt);
    transfers = refl;
  };
}

circle_leg2 : LegHolds circle_book circle_request (leg 2 (flight_of 3 rom nyc 22355) (fare_of rom nyc 67 R 30000 1) no_stops false 1 rom nyc 22355)
unfolding live_fare live_rule seats
circle_leg2 = record {
  known = refl;
  fare = refl;
  rule = refl;
  filed = (refl, refl);
  from = refl;
  to = refl;
  apart = rom_nyc;
  window = (omega (arith, ints), omega (arith, ints));
  lawful = record {
    shape = record { few = omega arith; joined = tt; apart = ((rom_nyc, tt), (tt, tt)) };
    seated = one_seated circle_book 1 24 (flight_of 3 rom nyc 22355) (omega arith);
    day_time = tt;
    flights = tt;
    stopovers = (omega arith, tt);
    transfers = refl;
  };
}

circle_leg3 : LegHolds circle_book circle_request (leg 3 (flight_of 4 nyc lon 22362) (fare_of lon nyc 68 R 8000 1) no_stops true 1 nyc lon 22362)
unfolding live_fare live_rule seats
circle_leg3 = record {
  known = refl;
  fare = refl;
  rule = refl;
  filed = (refl, refl);
  from = refl;
  to = refl;
  apart = nyc_lon;
  window = (omega (arith, ints), omega (arith, ints));
  lawful = record {
    shape = record { few = omega arith; joined = tt; apart = ((nyc_lon, tt), (tt, tt)) };
    seated = one_seated circle_book 1 24 (flight_of 4 nyc lon 22362) (omega arith);
    day_time = tt;
    flights = tt;
    stopovers = (omega arith, tt);
    transfers = refl;
  };
}

circle_far : FarApart circle_book circle_legs
unfolding connect
circle_far = (omega (arith, ints), (omega (arith, ints), (omega (arith, ints), tt)))

circle_kind : Circle ≢ OneWay
circle_kind e = cc

pub circle_lawful : LabelLaws → Lawful (ticket_of circle_legs) circle_book circle_request
circle_lawful laws =
    legs_lawful circle_book circle_request (leg 0 (flight_of 1 lon par 22341) (fare_of lon par 65 R 20000 1) no_stops false 1 lon par 22341)
    (leg 1 (flight_of 2 par rom 22348) (fare_of par rom 66 R 12000 1) no_stops false 1 par rom 22348 ∷ leg 2 (flight_of 3 rom nyc 22355) (fare_of rom nyc 67 R 30000 1) no_stops false 1 rom nyc 22355 ∷ leg 3 (flight_of 4 nyc lon 22362) (fare_of lon nyc 68 R 8000 1) no_stops true 1 nyc lon 22362 ∷ []) refl (circle_leg0, (circle_leg1, (circle_leg2, (circle_leg3, tt)))) circle_far
    ((laws.runs (Opens ∷ GoesOn 0 ∷ GoesOn 0 ∷ Closes 0 ∷ []) (1 ∷ 1 ∷ 1 ∷ 1 ∷ [])).0 (refl, omega arith, (refl, (refl, (refl, refl))))).0 (
      (Circle, (omega arith, omega arith, (refl, (refl, (refl, refl))), (refl, (refl, (refl, tt))), refl), (record { stands = circle_kind; season = tt; advance = tt; travel = tt; by = tt; min_stay = λ h. tt; max_stay = λ h. tt; kind_allowed = tt; partners = tt }, (record { stands = circle_kind; season = tt; advance = tt; travel = tt; by = tt; min_stay = λ h. tt; max_stay = λ h. tt; kind_allowed = tt; partners = tt }, (record { stands = circle_kind; season = tt; advance = tt; travel = tt; by = tt; min_stay = λ h. tt; max_stay = λ h. tt; kind_allowed = tt; partners = tt }, (record { stands = circle_kind; season = tt; advance = tt; travel = tt; by = tt; min_stay = λ h. tt; max_stay = λ h. tt; kind_allowed = tt; partners = tt }, tt))))),
      (
        (Circle, (omega arith, omega arith, (refl, (refl, (refl, refl))), (refl, (refl, (refl, tt))), refl), (record { stands = circle_kind; season = tt; advance = tt; travel = tt; by = tt; min_stay = λ h. tt; max_stay = λ h. tt; kind_allowed = tt; partners = tt }, (record { stands = circle_kind; season = tt; advance = tt; travel = tt; by = tt; min_stay = λ h. tt; max_stay = λ h. tt; kind_allowed = tt; partners = tt }, (record { stands = circle_kind; season = tt; advance = tt; travel = tt; by = tt; min_stay = λ h. tt; max_stay = λ h. tt; kind_allowed = tt; partners = tt }, (record { stands = circle_kind; season = tt; advance = tt; travel = tt; by = tt; min_stay = λ h. tt; max_stay = λ h. tt; kind_allowed = tt; partners = tt }, tt))))),
        (
          (Circle, (omega arith, omega arith, (refl, (refl, (refl, refl))), (refl, (refl, (refl, tt))), refl), (record { stands = circle_kind; season = tt; advance = tt; travel = tt; by = tt; min_stay = λ h. tt; max_stay = λ h. tt; kind_allowed = tt; partners = tt }, (record { stands = circle_kind; season = tt; advance = tt; travel = tt; by = tt; min_stay = λ h. tt; max_stay = λ h. tt; kind_allowed = tt; partners = tt }, (record { stands = circle_kind; season = tt; advance = tt; travel = tt; by = tt; min_stay = λ h. tt; max_stay = λ h. tt; kind_allowed = tt; partners = tt }, (record { stands = circle_kind; season = tt; advance = tt; travel = tt; by = tt; min_stay = λ h. tt; max_stay = λ h. tt; kind_allowed = tt; partners = tt }, tt))))),
          ((Circle, (omega arith, omega arith, (refl, (refl, (refl, refl))), (refl, (refl, (refl, tt))), refl), (record { stands = circle_kind; season = tt; advance = tt; travel = tt; by = tt; min_stay = λ h. tt; max_stay = λ h. tt; kind_allowed = tt; partners = tt }, (record { stands = circle_kind; season = tt; advance = tt; travel = tt; by = tt; min_stay = λ h. tt; max_stay = λ h. tt; kind_allowed = tt; partners = tt }, (record { stands = circle_kind; season = tt; advance = tt; travel = tt; by = tt; min_stay = λ h. tt; max_stay = λ h. tt; kind_allowed = tt; partners = tt }, (record { stands = circle_kind; season = tt; advance = tt; travel = tt; by = tt; min_stay = λ h. tt; max_stay = λ h. tt; kind_allowed = tt; partners = tt }, tt))))), tt),
        ),
      ),
    )
    (tt, (tt, (tt, (tt, tt))))

pub circle_costs : Costs (ticket_of circle_legs) circle_book circle_request 35000
circle_costs = (parts_of circle_request circle_legs, are_parts circle_book circle_request circle_legs (circle_leg0, (circle_leg1, (circle_leg2, (circle_leg3, tt)))), refl)

pub round_apart : Lawful (ticket_of (round_legs 1 2)) round_book round_request → ⊥
unfolding live_fare
round_apart ([], m, law, some) = m
round_apart (p ∷ [], m, law, some) = m.1
round_apart (p ∷ r ∷ s ∷ ps, m, law, some) = m.1.1
round_apart (p ∷ r ∷ [], m, law, some) =
    parted p r (kind p.piece.fare m.0.stands.fare) (ne_eqb r.unit p.unit (λ e. omega (arith, e, m.0.unit, m.1.0.unit))) law.units.0
  where
    kind : (f : Fare) → Some round_fare ≡ Some f → f.kind ≡ R
    kind f e = cc
