-- The book: a timetable and the filings so far. What is live is what the last action on it left.
use Rattle.std.specs.Prelude.{ℕ, ℤ, Bool, true, false, ◌&&◌, ◌==◌, cond, List, [], reverse, find, flat_map, take, slice_get, slice_index, Option, Some, None, unwrap_or, option_map, option_and_then, bytes_eq}
use Rattle.std.specs.Ordering.{int_eq}
use Rattle.fare_law.specs.declared.filings.Action.{Action}
use Rattle.fare_law.specs.declared.filings.Action.TheVariants.{PutFare, DropFare, PutRule, DropRule, PutSeats, DropSeats}
use Rattle.fare_law.specs.declared.names.Carrier.{Carrier}
use Rattle.fare_law.specs.declared.fares.Fare.{Fare}
use Rattle.fare_law.specs.declared.fares.FareKey.{FareKey}
use Rattle.fare_law.specs.declared.filings.Filing.{Filing}
use Rattle.fare_law.specs.declared.flights.Flight.{Flight}
use Rattle.fare_law.specs.declared.names.Place.{Place}
use Rattle.fare_law.specs.declared.rules.Rule.{Rule}
use Rattle.fare_law.specs.declared.filings.SeatKey.{SeatKey}
use Rattle.fare_law.specs.declared.rows.SeatRow.{SeatRow}
use Rattle.fare_law.specs.declared.rows.PlaceRow.{PlaceRow}

-- what is known before any filing: the places, the dated flights in order, the seat rows
pub record Timetable : Type 0 where
  pub places : List PlaceRow
  pub flights : List Flight
  pub seats : List SeatRow

-- a version of the history: the timetable and the filings so far
pub record Book : Type 0 where
  pub timetable : Timetable
  pub entries : List Filing

-- the version after the first n entries
abbrev pub version : Book → ℕ → Book
version b n = record b { entries = take n b.entries }

-- every action, in order
abbrev pub actions : Book → List Action
actions b = flat_map (λ filing. filing.actions) b.entries

abbrev pub same_place : Place → Place → Bool
same_place p q = bytes_eq p.0 q.0

abbrev pub same_carrier : Carrier → Carrier → Bool
same_carrier c d = bytes_eq c.0 d.0

abbrev pub same_key : FareKey → FareKey → Bool
same_key k l = same_carrier k.carrier l.carrier && same_place k.from l.from && same_place k.to l.to && bytes_eq k.basis.0 l.basis.0

abbrev pub same_day : Option ℤ → Option ℤ → Bool
same_day None None = true
same_day (Some d) (Some e) = int_eq d e
same_day None (Some e) = false
same_day (Some d) None = false

abbrev pub same_seat_key : SeatKey → SeatKey → Bool
same_seat_key k l = same_carrier k.carrier l.carrier && (k.number == l.number) && same_place k.from l.from && same_day k.day l.day

abbrev pub names_fare : FareKey → Action → Bool
names_fare key (PutFare fare) = same_key key fare.key
names_fare key (DropFare other) = same_key key other
names_fare key (PutRule c n r) = false
names_fare key (DropRule c n) = false
names_fare key (PutSeats k s) = false
names_fare key (DropSeats k) = false

abbrev pub names_rule : Carrier → ℕ → Action → Bool
names_rule carrier number (PutFare fare) = false
names_rule carrier number (DropFare other) = false
names_rule carrier number (PutRule c n r) = same_carrier carrier c && (number == n)
names_rule carrier number (DropRule c n) = same_carrier carrier c && (number == n)
names_rule carrier number (PutSeats k s) = false
names_rule carrier number (DropSeats k) = false

abbrev pub names_seats : SeatKey → Action → Bool
names_seats key (PutFare fare) = false
names_seats key (DropFare other) = false
names_seats key (PutRule c n r) = false
names_seats key (DropRule c n) = false
names_seats key (PutSeats k s) = same_seat_key key k
names_seats key (DropSeats k) = same_seat_key key k

abbrev pub last_that : (Action → Bool) → Book → Option Action
last_that test b = find test (reverse (actions b))

abbrev pub fare_put : Action → Option Fare
fare_put (PutFare fare) = Some fare
fare_put (DropFare other) = None
fare_put (PutRule c n r) = None
fare_put (DropRule c n) = None
fare_put (PutSeats k s) = None
fare_put (DropSeats k) = None

-- the live fare of a key
unfoldable pub live_fare : Book → FareKey → Option Fare
live_fare b key = option_and_then fare_put (last_that (names_fare key) b)

abbrev pub rule_put : Action → Option Rule
rule_put (PutFare fare) = None
rule_put (DropFare other) = None
rule_put (PutRule c n r) = Some r
rule_put (DropRule c n) = None
rule_put (PutSeats k s) = None
rule_put (DropSeats k) = None

-- the rule with no category
abbrev pub free_rule : Rule
free_rule = record { cat2 = None; cat3 = None; cat4 = None; cat5 = None; cat6 = None; cat7 = None; cat8 = None; cat9 = None; cat10 = None; cat12 = None; cat14 = None }

-- the live rule of a carrier and a number
unfoldable pub live_rule : Book → Carrier → ℕ → Option Rule
live_rule b carrier number = cond (number == 0) (Some free_rule) (option_and_then rule_put (last_that (names_rule carrier number) b))

abbrev pub seats_left : Action → Option (List ℕ)
seats_left (PutFare fare) = None
seats_left (DropFare other) = None
seats_left (PutRule c n r) = None
seats_left (DropRule c n) = None
seats_left (PutSeats k s) = Some s
seats_left (DropSeats k) = None

abbrev pub row_key : SeatRow → SeatKey
row_key row = record { carrier = row.carrier; number = row.number; from = row.from; day = row.day }

abbrev pub row_seats : Book → SeatKey → Option (List ℕ)
row_seats b key = option_map (λ row. row.seats) (find (λ row. same_seat_key key (row_key row)) b.timetable.seats)

-- what the last action on the key leaves, or else what the timetable has
abbrev pub seats_after : Book → SeatKey → Option Action → Option (List ℕ)
seats_after b key None = row_seats b key
seats_after b key (Some action) = seats_left action

abbrev pub live_seats : Book → SeatKey → Option (List ℕ)
live_seats b key = seats_after b key (last_that (names_seats key) b)

abbrev pub or_else : Option (List ℕ) → Option (List ℕ) → List ℕ
or_else (Some s) other = s
or_else None (Some s) = s
or_else None None = []

-- the seats of a flight in a class
unfoldable pub seats : Book → Flight → ℕ → ℕ
seats b flight class =
    slice_index (or_else
    (live_seats b (record { carrier = flight.carrier; number = flight.number; from = flight.from; day = Some flight.day }))
    (live_seats b (record { carrier = flight.carrier; number = flight.number; from = flight.from; day = None }))) class

-- the least connect time of a place, in minutes
unfoldable pub connect : Book → Place → ℕ
connect b place = unwrap_or (option_map (λ row. row.connect) (find (λ row. same_place place row.place) b.timetable.places)) 0

abbrev pub flight_at : Book → ℕ → Option Flight
flight_at b n = slice_get b.timetable.flights n
