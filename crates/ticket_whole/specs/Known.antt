-- What a book knows of components: their flights, their fares with their rules, and the parts of a ticket that they are.
use Rattle.std.specs.Prelude.{◌≡◌, ◌&&◌, ℕ, ℤ, List, [], ◌∷◌, Option, Some, None, option_and_then, option_map}
use Rattle.std.specs.List.{filter_map}
use Rattle.fare_law.specs.declared.fares.FareKey.{FareKey}
use Rattle.fare_law.specs.declared.flights.Flight.{Flight}
use Rattle.fare_law.specs.declared.sheets.SheetRow.{SheetRow}
use Rattle.fare_law.specs.declared.tickets.Component.{Component}
use Rattle.fare_law.specs.Book.{Book, flight_at, live_fare, live_rule, same_place}
use Rattle.fare_law.specs.Parts.{Part}

-- the flights of those numbers that are known
abbrev pub known_flights : Book → List ℕ → List Flight
known_flights b numbers = filter_map (flight_at b) numbers

abbrev pub IsUnknown : Book → ℕ → Type 0
IsUnknown b number = flight_at b number ≡ None

-- the live fare of a key, with its live rule
abbrev pub live_row : Book → FareKey → Option SheetRow
live_row b key = option_and_then (λ fare. option_map (λ rule. record { fare = fare; rule = rule }) (live_rule b key.carrier fare.rule)) (live_fare b key)

abbrev pub last_of : Flight → List Flight → Flight
last_of f [] = f
last_of f (g ∷ fs) = last_of g fs

-- the first flight and the last
abbrev pub ends_of : List Flight → Option (Flight × Flight)
ends_of [] = None
ends_of (f ∷ fs) = Some (f, last_of f fs)

-- the part of a ticket that a fare over these flights is; it is reverse where the fare is filed from the end to the beginning
abbrev pub part_over : ℤ → ℕ → SheetRow → List Flight → Flight × Flight → Part
part_over sale unit row fs e = record {
  flights = fs;
  piece = record {
    begin = e.0.from;
    end = e.1.to;
    fare = row.fare;
    rule = row.rule;
    reverse = same_place row.fare.key.from e.1.to && same_place row.fare.key.to e.0.from;
    first_day = e.0.day;
    last_day = e.1.day;
    sale = sale;
  };
  unit = unit;
}

-- the part that a component is, where its fare is live and it has a known flight
abbrev pub part_of : Book → ℤ → Component → Option Part
part_of b sale c = option_and_then (λ row. option_map (part_over sale c.unit row (known_flights b c.flights)) (ends_of (known_flights b c.flights))) (live_row b c.fare)

abbrev pub parts_of : Book → ℤ → List Component → List Part
parts_of b sale cs = filter_map (part_of b sale) cs
