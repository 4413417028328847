-- The cases keep to the limits.
use Rattle.std.proofs.Common.{◌≡◌, ℕ, zero, suc, pos, nat_abs, ◌≤◌, ◌∷◌, ◌++◌, List, [], drop, get_or, replicate, slice_index, refl, inl, inr, arith}
use Rattle.std.proofs.lemmas.Int.{ints}
use Rattle.fare_law.specs.declared.fares.Fare.{Fare}
use Rattle.fare_law.specs.declared.fares.FareKind.{FareKind}
use Rattle.fare_law.specs.declared.fares.FareKind.TheVariants.{O, R}
use Rattle.fare_law.specs.declared.flights.Flight.{Flight}
use Rattle.fare_law.specs.declared.names.Place.{Place}
use Rattle.fare_law.specs.FilingLimits.{IsFiling}
use Rattle.fare_law.specs.Limits.{IsCapital, IsFare, IsFlight, IsPlace, IsPlaceRow, IsSeatRow, IsSlice}
use Rattle.fare_law.specs.Lists.{Each}
use Rattle.fare_law.specs.Names.{IsCarrier}
use Rattle.fare_law.specs.RuleLimits.{IsRule}
use Rattle.fare_law.specs.declared.limits.TheConstants.{FIRST_DAY, LAST_DAY}
use Rattle.worked_cases.specs.Cases.{charges, circle_book, circle_request, no_stops, one_way_book, one_way_request, round_book, round_request}
use Rattle.worked_cases.specs.Journeys.{boston_fare, far_fare, inner_book, inner_request, jaw_book, jaw_request, paris_fare, round_fare_of}
use Rattle.worked_cases.specs.Makers.{bos, chi, fare_of, flight_of, lon, nyc, par, place_row, qx, rom, seat_row, slice_of}
use Rattle.worked_cases.specs.Ranges.{KeepsLimits}
use Rattle.worked_cases.proofs.Pairs.{differ}

is_lon : IsPlace lon
is_lon = (refl, ((omega arith, omega arith), ((omega arith, omega arith), ((omega arith, omega arith), tt))))

is_nyc : IsPlace nyc
is_nyc = (refl, ((omega arith, omega arith), ((omega arith, omega arith), ((omega arith, omega arith), tt))))

is_par : IsPlace par
is_par = (refl, ((omega arith, omega arith), ((omega arith, omega arith), ((omega arith, omega arith), tt))))

is_rom : IsPlace rom
is_rom = (refl, ((omega arith, omega arith), ((omega arith, omega arith), ((omega arith, omega arith), tt))))

is_bos : IsPlace bos
is_bos = (refl, ((omega arith, omega arith), ((omega arith, omega arith), ((omega arith, omega arith), tt))))

is_chi : IsPlace chi
is_chi = (refl, ((omega arith, omega arith), ((omega arith, omega arith), ((omega arith, omega arith), tt))))

is_qx : IsCarrier qx
is_qx = (refl, (inr (omega arith, omega arith), (inr (omega arith, omega arith), tt)))

row : (p : Place) → IsPlace p → IsPlaceRow (place_row p)
row p is = record { place = is; connect = omega arith }

dated : (number : ℕ) (from to : Place) (day : ℕ) → 1 ≤ number → number ≤ 9999 → IsPlace from → IsPlace to → nat_abs FIRST_DAY ≤ day → day ≤ nat_abs LAST_DAY → IsFlight (flight_of number from to day)
dated number from to day one last from_is to_is first end = record {
  carrier = is_qx;
  number = (one, last);
  from = from_is;
  to = to_is;
  day = (omega (arith, ints, first), omega (arith, ints, end));
  minute = omega arith;
  dep = (omega (arith, ints), omega (arith, ints, end));
  arr = (omega (arith, ints), omega (arith, ints, end));
}

few_after : (n : ℕ) (ns : List ℕ) → Each (λ n. n ≤ 9) ns → Each (λ n. n ≤ 9) (replicate n 0 ++ ns)
few_after zero ns h = h
few_after (suc n) ns h = (omega arith, few_after n ns h)

none_from : (n : ℕ) (xs : List ℕ) → Each (λ x. x ≡ 0) (drop n xs) → (k : ℕ) → n ≤ k → slice_index xs k ≡ 0
none_from n [] h k le = refl
none_from zero (x ∷ xs) h zero le = h.0
none_from zero (x ∷ xs) h (suc k) le = none_from zero xs h.1 k (omega arith)
none_from (suc n) (x ∷ xs) h zero le = absurd (omega (arith, le))
none_from (suc n) (x ∷ xs) h (suc k) le = none_from n xs h k (omega (arith, le))

seated : (f : Flight) → IsFlight f → IsSeatRow (seat_row f)
seated f is = record {
  key = record { carrier = is.carrier; number = is.number; from = is.from; day = tt };
  seats = record {
    many = refl;
    few = few_after 24 (9 ∷ replicate 7 0) (omega arith, few_after 7 [] tt);
    none = none_from 26 (seat_row f).seats (refl, (refl, (refl, (refl, (refl, (refl, tt))))));
  };
}

fare_is : (from to : Place) (letter : ℕ) (kind : FareKind) (amount rule : ℕ) → IsPlace from → IsPlace to → 65 ≤ letter → letter ≤ 90 → amount ≤ 1000000000 → rule ≤ 9999 → IsFare (fare_of from to letter kind amount rule)
fare_is from to letter kind amount rule from_is to_is low high amount_is rule_is = record {
  key = record { carrier = is_qx; from = from_is; to = to_is; basis = (omega arith, omega arith, (inr (low, high), (inl (omega arith, omega arith), tt))) };
  class = omega arith;
  amount = amount_is;
  rule = rule_is;
}

sliced : (from to : Place) (day : ℕ) → IsPlace from → IsPlace to → nat_abs FIRST_DAY ≤ day → day ≤ nat_abs LAST_DAY → IsSlice (slice_of from to day)
sliced from to day from_is to_is first end = record { from = from_is; to = to_is; first = (omega (arith, ints, first), omega (arith, ints, end)); days = (omega arith, omega arith) }

pub no_stops_is : IsRule no_stops
no_stops_is = record { cat2 = tt; cat3 = tt; cat4 = tt; cat5 = tt; cat6 = tt; cat7 = tt; cat8 = record { max = omega arith; charge = omega arith; places = tt }; cat9 = tt; cat10 = tt; cat12 = tt; cat14 = tt }

pub one_way_keeps : KeepsLimits one_way_book one_way_request
one_way_keeps = record {
  places = (row lon is_lon, (row nyc is_nyc, tt));
  flights = (dated 101 lon nyc 22341 (omega arith) (omega arith) is_lon is_nyc (omega arith) (omega arith), tt);
  seats = (seated (flight_of 101 lon nyc 22341) (dated 101 lon nyc 22341 (omega arith) (omega arith) is_lon is_nyc (omega arith) (omega arith)), tt);
  filings = (record { few = omega arith; each = (fare_is lon nyc 89 O 20000 0 is_lon is_nyc (omega arith) (omega arith) (omega arith) (omega arith), tt) }, tt);
  request = record {
    sale = (omega (arith, ints), omega (arith, ints));
    party = (omega arith, omega arith);
    best = (omega arith, omega arith);
    count = (omega arith, omega arith);
    windows = (sliced lon nyc 22341 is_lon is_nyc (omega arith) (omega arith), tt);
    departs = (differ lon nyc 0 (λ e. omega (arith, e)), tt);
  };
}

pub round_keeps : KeepsLimits round_book round_request
round_keeps = record {
  places = (row lon is_lon, (row nyc is_nyc, tt));
  flights = (dated 101 lon nyc 22341 (omega arith) (omega arith) is_lon is_nyc (omega arith) (omega arith), (dated 102 nyc lon 22348 (omega arith) (omega arith) is_nyc is_lon (omega arith) (omega arith), tt));
  seats = (seated (flight_of 101 lon nyc 22341) (dated 101 lon nyc 22341 (omega arith) (omega arith) is_lon is_nyc (omega arith) (omega arith)), (seated (flight_of 102 nyc lon 22348) (dated 102 nyc lon 22348 (omega arith) (omega arith) is_nyc is_lon (omega arith) (omega arith)), tt));
  filings = (record { few = omega arith; each = (fare_is lon nyc 82 R 40000 0 is_lon is_nyc (omega arith) (omega arith) (omega arith) (omega arith), tt) }, tt);
  request = record {
    sale = (omega (arith, ints), omega (arith, ints));
    party = (omega arith, omega arith);
    best = (omega arith, omega arith);
    count = (omega arith, omega arith);
    windows = (sliced lon nyc 22341 is_lon is_nyc (omega arith) (omega arith), (sliced nyc lon 22348 is_nyc is_lon (omega arith) (omega arith), tt));
    departs = (differ lon nyc 0 (λ e. omega (arith, e)), (differ nyc lon 0 (λ e. omega (arith, e)), tt));
  };
}

pub circle_keeps : KeepsLimits circle_book circle_request
circle_keeps = record {
  places = (row lon is_lon, (row par is_par, (row rom is_rom, (row nyc is_nyc, tt))));
  flights = (dated 1 lon par 22341 (omega arith) (omega arith) is_lon is_par (omega arith) (omega arith), (dated 2 par rom 22348 (omega arith) (omega arith) is_par is_rom (omega arith) (omega arith), (dated 3 rom nyc 22355 (omega arith) (omega arith) is_rom is_nyc (omega arith) (omega arith), (dated 4 nyc lon 22362 (omega arith) (omega arith) is_nyc is_lon (omega arith) (omega arith), tt))));
  seats = (seated (flight_of 1 lon par 22341) (dated 1 lon par 22341 (omega arith) (omega arith) is_lon is_par (omega arith) (omega arith)), (seated (flight_of 2 par rom 22348) (dated 2 par rom 22348 (omega arith) (omega arith) is_par is_rom (omega arith) (omega arith)), (seated (flight_of 3 rom nyc 22355) (dated 3 rom nyc 22355 (omega arith) (omega arith) is_rom is_nyc (omega arith) (omega arith)), (seated (flight_of 4 nyc lon 22362) (dated 4 nyc lon 22362 (omega arith) (omega arith) is_nyc is_lon (omega arith) (omega arith)), tt))));
  filings = (record { few = omega arith; each = ((is_qx, (omega arith, omega arith), no_stops_is), (fare_is lon par 65 R 20000 1 is_lon is_par (omega arith) (omega arith) (omega arith) (omega arith), (fare_is par rom 66 R 12000 1 is_par is_rom (omega arith) (omega arith) (omega arith) (omega arith), (fare_is rom nyc 67 R 30000 1 is_rom is_nyc (omega arith) (omega arith) (omega arith) (omega arith), (fare_is lon nyc 68 R 8000 1 is_lon is_nyc (omega arith) (omega arith) (omega arith) (omega arith), tt))))) }, tt);
  request = record {
    sale = (omega (arith, ints), omega (arith, ints));
    party = (omega arith, omega arith);
    best = (omega arith, omega arith);
    count = (omega arith, omega arith);
    windows = (sliced lon par 22341 is_lon is_par (omega arith) (omega arith), (sliced par rom 22348 is_par is_rom (omega arith) (omega arith), (sliced rom nyc 22355 is_rom is_nyc (omega arith) (omega arith), (sliced nyc lon 22362 is_nyc is_lon (omega arith) (omega arith), tt))));
    departs = (differ lon par 0 (λ e. omega (arith, e)), (differ par rom 0 (λ e. omega (arith, e)), (differ rom nyc 0 (λ e. omega (arith, e)), (differ nyc lon 0 (λ e. omega (arith, e)), tt))));
  };
}

pub boston_keeps : KeepsLimits (jaw_book bos lon boston_fare) (jaw_request bos lon boston_fare)
boston_keeps = record {
  places = (row lon is_lon, (row nyc is_nyc, (row bos is_bos, (row par is_par, tt))));
  flights = (dated 101 lon nyc 22341 (omega arith) (omega arith) is_lon is_nyc (omega arith) (omega arith), (dated 102 bos lon 22348 (omega arith) (omega arith) is_bos is_lon (omega arith) (omega arith), tt));
  seats = (seated (flight_of 101 lon nyc 22341) (dated 101 lon nyc 22341 (omega arith) (omega arith) is_lon is_nyc (omega arith) (omega arith)), (seated (flight_of 102 bos lon 22348) (dated 102 bos lon 22348 (omega arith) (omega arith) is_bos is_lon (omega arith) (omega arith)), tt));
  filings = (record { few = omega arith; each = (fare_is lon nyc 82 R 40000 0 is_lon is_nyc (omega arith) (omega arith) (omega arith) (omega arith), (fare_is lon bos 82 R 30000 0 is_lon is_bos (omega arith) (omega arith) (omega arith) (omega arith), tt)) }, tt);
  request = record {
    sale = (omega (arith, ints), omega (arith, ints));
    party = (omega arith, omega arith);
    best = (omega arith, omega arith);
    count = (omega arith, omega arith);
    windows = (sliced lon nyc 22341 is_lon is_nyc (omega arith) (omega arith), (sliced bos lon 22348 is_bos is_lon (omega arith) (omega arith), tt));
    departs = (differ lon nyc 0 (λ e. omega (arith, e)), (differ bos lon 0 (λ e. omega (arith, e)), tt));
  };
}

pub paris_keeps : KeepsLimits (jaw_book nyc par paris_fare) (jaw_request nyc par paris_fare)
paris_keeps = record {
  places = (row lon is_lon, (row nyc is_nyc, (row bos is_bos, (row par is_par, tt))));
  flights = (dated 101 lon nyc 22341 (omega arith) (omega arith) is_lon is_nyc (omega arith) (omega arith), (dated 102 nyc par 22348 (omega arith) (omega arith) is_nyc is_par (omega arith) (omega arith), tt));
  seats = (seated (flight_of 101 lon nyc 22341) (dated 101 lon nyc 22341 (omega arith) (omega arith) is_lon is_nyc (omega arith) (omega arith)), (seated (flight_of 102 nyc par 22348) (dated 102 nyc par 22348 (omega arith) (omega arith) is_nyc is_par (omega arith) (omega arith)), tt));
  filings = (record { few = omega arith; each = (fare_is lon nyc 82 R 40000 0 is_lon is_nyc (omega arith) (omega arith) (omega arith) (omega arith), (fare_is par nyc 82 R 44000 0 is_par is_nyc (omega arith) (omega arith) (omega arith) (omega arith), tt)) }, tt);
  request = record {
    sale = (omega (arith, ints), omega (arith, ints));
    party = (omega arith, omega arith);
    best = (omega arith, omega arith);
    count = (omega arith, omega arith);
    windows = (sliced lon nyc 22341 is_lon is_nyc (omega arith) (omega arith), (sliced nyc par 22348 is_nyc is_par (omega arith) (omega arith), tt));
    departs = (differ lon nyc 0 (λ e. omega (arith, e)), (differ nyc par 0 (λ e. omega (arith, e)), tt));
  };
}

pub far_keeps : KeepsLimits (jaw_book bos par far_fare) (jaw_request bos par far_fare)
far_keeps = record {
  places = (row lon is_lon, (row nyc is_nyc, (row bos is_bos, (row par is_par, tt))));
  flights = (dated 101 lon nyc 22341 (omega arith) (omega arith) is_lon is_nyc (omega arith) (omega arith), (dated 102 bos par 22348 (omega arith) (omega arith) is_bos is_par (omega arith) (omega arith), tt));
  seats = (seated (flight_of 101 lon nyc 22341) (dated 101 lon nyc 22341 (omega arith) (omega arith) is_lon is_nyc (omega arith) (omega arith)), (seated (flight_of 102 bos par 22348) (dated 102 bos par 22348 (omega arith) (omega arith) is_bos is_par (omega arith) (omega arith)), tt));
  filings = (record { few = omega arith; each = (fare_is lon nyc 82 R 40000 0 is_lon is_nyc (omega arith) (omega arith) (omega arith) (omega arith), (fare_is par bos 82 R 44000 0 is_par is_bos (omega arith) (omega arith) (omega arith) (omega arith), tt)) }, tt);
  request = record {
    sale = (omega (arith, ints), omega (arith, ints));
    party = (omega arith, omega arith);
    best = (omega arith, omega arith);
    count = (omega arith, omega arith);
    windows = (sliced lon nyc 22341 is_lon is_nyc (omega arith) (omega arith), (sliced bos par 22348 is_bos is_par (omega arith) (omega arith), tt));
    departs = (differ lon nyc 0 (λ e. omega (arith, e)), (differ bos par 0 (λ e. omega (arith, e)), tt));
  };
}

pub inner_keeps : KeepsLimits inner_book inner_request
inner_keeps = record {
  places = (row lon is_lon, (row nyc is_nyc, (row chi is_chi, tt)));
  flights = (dated 101 lon nyc 22341 (omega arith) (omega arith) is_lon is_nyc (omega arith) (omega arith), (dated 102 nyc chi 22348 (omega arith) (omega arith) is_nyc is_chi (omega arith) (omega arith), (dated 103 chi nyc 22355 (omega arith) (omega arith) is_chi is_nyc (omega arith) (omega arith), (dated 104 nyc lon 22362 (omega arith) (omega arith) is_nyc is_lon (omega arith) (omega arith), tt))));
  seats = (seated (flight_of 101 lon nyc 22341) (dated 101 lon nyc 22341 (omega arith) (omega arith) is_lon is_nyc (omega arith) (omega arith)), (seated (flight_of 102 nyc chi 22348) (dated 102 nyc chi 22348 (omega arith) (omega arith) is_nyc is_chi (omega arith) (omega arith)), (seated (flight_of 103 chi nyc 22355) (dated 103 chi nyc 22355 (omega arith) (omega arith) is_chi is_nyc (omega arith) (omega arith)), (seated (flight_of 104 nyc lon 22362) (dated 104 nyc lon 22362 (omega arith) (omega arith) is_nyc is_lon (omega arith) (omega arith)), tt))));
  filings = (record { few = omega arith; each = (fare_is lon nyc 82 R 40000 0 is_lon is_nyc (omega arith) (omega arith) (omega arith) (omega arith), (fare_is nyc chi 82 R 10000 0 is_nyc is_chi (omega arith) (omega arith) (omega arith) (omega arith), tt)) }, tt);
  request = record {
    sale = (omega (arith, ints), omega (arith, ints));
    party = (omega arith, omega arith);
    best = (omega arith, omega arith);
    count = (omega arith, omega arith);
    windows = (sliced lon nyc 22341 is_lon is_nyc (omega arith) (omega arith), (sliced nyc chi 22348 is_nyc is_chi (omega arith) (omega arith), (sliced chi nyc 22355 is_chi is_nyc (omega arith) (omega arith), (sliced nyc lon 22362 is_nyc is_lon (omega arith) (omega arith), tt))));
    departs = (differ lon nyc 0 (λ e. omega (arith, e)), (differ nyc chi 0 (λ e. omega (arith, e)), (differ chi nyc 0 (λ e. omega (arith, e)), (differ nyc lon 0 (λ e. omega (arith, e)), tt))));
  };
}
