-- Open jaws, and a unit inside another one. All fares are of kind R on the rule with no category.
use Rattle.std.specs.Prelude.{ℕ, Bool, true, false, List, [], ◌∷◌}
use Rattle.fare_law.specs.declared.fares.Fare.{Fare}
use Rattle.fare_law.specs.declared.fares.FareKind.TheVariants.{R}
use Rattle.fare_law.specs.declared.filings.Action.TheVariants.{PutFare}
use Rattle.fare_law.specs.declared.names.Place.{Place}
use Rattle.fare_law.specs.declared.requests.Request.{Request}
use Rattle.fare_law.specs.Book.{Book, free_rule}
use Rattle.worked_cases.specs.Cases.{leg}
use Rattle.worked_cases.specs.Makers.{bos, chi, lon, nyc, par, fare_of, flight_of, Leg, book_of, request_of, slices_of}

abbrev pub round_fare_of : Place → Place → ℕ → Fare
round_fare_of from to amount = fare_of from to 82 R amount 0

-- a leg on a flight of QX by its place in the timetable and its number
abbrev pub hop : ℕ → ℕ → Place → Place → ℕ → Fare → Bool → ℕ → Leg
hop n number from to day fare reverse unit = leg n (flight_of number from to day) fare free_rule reverse unit from to day

-- From London to New York and from a third place home a week later.

abbrev pub boston_fare : Fare
boston_fare = round_fare_of lon bos 30000

abbrev pub london_fare : Fare
london_fare = round_fare_of lon nyc 40000

abbrev pub paris_fare : Fare
paris_fare = round_fare_of par nyc 44000

abbrev pub far_fare : Fare
far_fare = round_fare_of par bos 44000

-- there on the one fare, and back from the one place to the other on the second, with these labels
abbrev pub jaw_legs : Place → Place → Fare → ℕ → ℕ → List Leg
jaw_legs from to fare u v = hop 0 101 lon nyc 22341 london_fare false u ∷ hop 1 102 from to 22348 fare true v ∷ []

abbrev pub jaw_book : Place → Place → Fare → Book
jaw_book from to fare = book_of (lon ∷ nyc ∷ bos ∷ par ∷ []) (flight_of 101 lon nyc 22341 ∷ flight_of 102 from to 22348 ∷ []) (PutFare london_fare ∷ PutFare fare ∷ [])

abbrev pub jaw_request : Place → Place → Fare → Request
jaw_request from to fare = request_of (slices_of (jaw_legs from to fare 1 1))

-- From London to New York, on to Chicago and back, and home, each a week later.

abbrev pub chicago_fare : Fare
chicago_fare = round_fare_of nyc chi 10000

abbrev pub inner_legs : List Leg
inner_legs =
    hop 0 101 lon nyc 22341 london_fare false 1
    ∷ hop 1 102 nyc chi 22348 chicago_fare false 2
    ∷ hop 2 103 chi nyc 22355 chicago_fare true 2
    ∷ hop 3 104 nyc lon 22362 london_fare true 1
    ∷ []

abbrev pub inner_book : Book
inner_book =
    book_of (lon ∷ nyc ∷ chi ∷ []) (flight_of 101 lon nyc 22341 ∷ flight_of 102 nyc chi 22348 ∷ flight_of 103 chi nyc 22355 ∷ flight_of 104 nyc lon 22362 ∷ [])
    (PutFare london_fare ∷ PutFare chicago_fare ∷ [])

abbrev pub inner_request : Request
inner_request = request_of (slices_of inner_legs)
