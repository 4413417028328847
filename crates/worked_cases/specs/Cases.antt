-- The cases.
use Rattle.std.specs.Prelude.{ℕ, Bool, pos, ◌+◌, ◌*◌, true, false, List, [], ◌∷◌, Some, None}
use Rattle.fare_law.specs.declared.fares.Fare.{Fare}
use Rattle.fare_law.specs.declared.fares.FareKind.TheVariants.{O, R}
use Rattle.fare_law.specs.declared.filings.Action.TheVariants.{PutFare, PutRule}
use Rattle.fare_law.specs.declared.flights.Flight.{Flight}
use Rattle.fare_law.specs.declared.names.Basis.{Basis}
use Rattle.fare_law.specs.declared.names.Place.{Place}
use Rattle.fare_law.specs.declared.requests.Request.{Request}
use Rattle.fare_law.specs.declared.rules.Rule.{Rule}
use Rattle.fare_law.specs.declared.tickets.Piece.{Piece}
use Rattle.fare_law.specs.Book.{Book, free_rule}
use Rattle.worked_cases.specs.Makers.{qx, lon, nyc, par, rom, flight_of, fare_of, slice_of, book_of, request_of, Leg, slices_of}

-- a leg on a flight of its own day
abbrev pub leg : ℕ → Flight → Fare → Rule → Bool → ℕ → Place → Place → ℕ → Leg
leg number flight fare rule reverse unit from to day = record { number = number; flight = flight; fare = fare; rule = rule; reverse = reverse; unit = unit; slice = slice_of from to day }

-- One way: one flight, one fare of 20000.

abbrev pub out_flight : Flight
out_flight = flight_of 101 lon nyc 22341

abbrev pub back_flight : Flight
back_flight = flight_of 102 nyc lon 22348

abbrev pub one_way_fare : Fare
one_way_fare = fare_of lon nyc 89 O 20000 0

abbrev pub one_way_book : Book
one_way_book = book_of (lon ∷ nyc ∷ []) (out_flight ∷ []) (PutFare one_way_fare ∷ [])

abbrev pub one_way_legs : List Leg
one_way_legs = leg 0 out_flight one_way_fare free_rule false 1 lon nyc 22341 ∷ []

abbrev pub one_way_request : Request
one_way_request = request_of (slices_of one_way_legs)

-- so many passengers and tickets, in one slice from London with a window of so many days
abbrev pub asked : ℕ → ℕ → ℕ → Place → Request
asked party best days to = record { sale = pos 10957; party = party; best = best; slices = record { from = lon; to = to; first = pos 47481; days = days } ∷ [] }

-- Round trip: out and back a week later, a fare of kind R at 40000.

abbrev pub round_fare : Fare
round_fare = fare_of lon nyc 82 R 40000 0

abbrev pub round_book : Book
round_book = book_of (lon ∷ nyc ∷ []) (out_flight ∷ back_flight ∷ []) (PutFare round_fare ∷ [])

-- with these labels
abbrev pub round_legs : ℕ → ℕ → List Leg
round_legs u v = leg 0 out_flight round_fare free_rule false u lon nyc 22341 ∷ leg 1 back_flight round_fare free_rule true v nyc lon 22348 ∷ []

abbrev pub round_request : Request
round_request = request_of (slices_of (round_legs 1 1))

-- Circle: four slices a week apart, four fares of kind R on a rule that allows no stopover.

abbrev pub no_stops : Rule
no_stops = record free_rule { cat8 = Some (record { max = 0; charge = 0; places = None }) }

abbrev pub circle_flights : List Flight
circle_flights = flight_of 1 lon par 22341 ∷ flight_of 2 par rom 22348 ∷ flight_of 3 rom nyc 22355 ∷ flight_of 4 nyc lon 22362 ∷ []

abbrev pub circle_legs : List Leg
circle_legs =
    leg 0 (flight_of 1 lon par 22341) (fare_of lon par 65 R 20000 1) no_stops false 1 lon par 22341
    ∷ leg 1 (flight_of 2 par rom 22348) (fare_of par rom 66 R 12000 1) no_stops false 1 par rom 22348
    ∷ leg 2 (flight_of 3 rom nyc 22355) (fare_of rom nyc 67 R 30000 1) no_stops false 1 rom nyc 22355
    ∷ leg 3 (flight_of 4 nyc lon 22362) (fare_of lon nyc 68 R 8000 1) no_stops true 1 nyc lon 22362
    ∷ []

abbrev pub circle_book : Book
circle_book =
    book_of (lon ∷ par ∷ rom ∷ nyc ∷ []) circle_flights
    (PutRule qx 1 no_stops ∷ PutFare (fare_of lon par 65 R 20000 1) ∷ PutFare (fare_of par rom 66 R 12000 1) ∷ PutFare (fare_of rom nyc 67 R 30000 1) ∷ PutFare (fare_of lon nyc 68 R 8000 1) ∷ [])

abbrev pub circle_request : Request
circle_request = request_of (slices_of circle_legs)

-- Pieces of one flight each, and a rule with a charge for a stopover and a surcharge on flights 1 to 9 in the year 2031.

abbrev pub forward : Place → Place → Piece
forward from to = record { begin = from; end = to; fare = fare_of from to 65 R 20000 0; rule = free_rule; reverse = false; first_day = pos 22341; last_day = pos 22341; sale = pos 22311 }

-- filed from its end to its beginning
abbrev pub backward : Place → Place → Piece
backward from to = record { begin = from; end = to; fare = fare_of to from 65 R 20000 0; rule = free_rule; reverse = true; first_day = pos 22348; last_day = pos 22348; sale = pos 22311 }

abbrev pub charges : Rule
charges = record free_rule { cat8 = Some (record { max = 3; charge = 7000; places = None }); cat12 = Some (record { carrier = qx; low = 1; high = 9; first = pos 22280; last = pos 22644; amount = 500 } ∷ []) }

-- a fare of kind R at 20000 on this rule
abbrev pub charged : Piece
charged = record (forward lon rom) { fare = fare_of lon rom 65 R 20000 1; rule = charges }

-- a flight that departs so many minutes after the first one arrives
abbrev pub after_minutes : ℕ → Flight
after_minutes gap = record (flight_of 2 par rom 22342) { dep = pos (1440 * 22341 + 720 + gap) }

abbrev pub first_flight : Flight
first_flight = flight_of 1 lon par 22341

-- a stay of three days with a Sunday
abbrev pub with_sunday : Rule
with_sunday = record free_rule { cat6 = Some (record { days = 3; sunday = true }) }

abbrev pub r1 : Basis
r1 = record { 0 = 82 ∷ 49 ∷ [] }

abbrev pub y1 : Basis
y1 = record { 0 = 89 ∷ 49 ∷ [] }
