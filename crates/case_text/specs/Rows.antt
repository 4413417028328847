-- The rows of the tables of places, flights and seats: a row, or the first column that isn't of its form.
use Rattle.std.specs.Prelude.{ℕ, ◌==◌, ◌&&◌, ◌-◌, List, [], length, slice_index_or, Option, Some, None, Result, Ok, Err, if◌then◌else◌}
use Rattle.fare_law.specs.declared.rows.PlaceRow.{PlaceRow}
use Rattle.fare_law.specs.declared.rows.FlightRow.{FlightRow}
use Rattle.fare_law.specs.declared.rows.SeatRow.{SeatRow}
use Rattle.fare_law.specs.declared.rows.TextLine.{TextLine}
use Rattle.market_time.specs.Dates.{day_spelled}
use Rattle.market_time.specs.Clock.{minute_spelled, offset_spelled}
use Rattle.name_text.specs.Names.{place_of, carrier_of}
use Rattle.name_text.specs.Seats.{seat_day_of, seats_of}
use Rattle.case_text.specs.Cut.{cut, plain_line}
use Rattle.case_text.specs.Numbers.{number_within}
use Rattle.case_text.specs.Marks.{shift_of, weekdays_of}

infixl 10 ◌>>=◌
-- what follows, where no column was bad
abbrev pub ◌>>=◌ : {A B : Type 0} → Result A ℕ → (A → Result B ℕ) → Result B ℕ
(Ok x) >>= f = f x
(Err column) >>= f = Err column

-- what a column spells, or the column where it spells nothing
abbrev pub in_column : {A : Type 0} → ℕ → Option A → Result A ℕ
in_column column None = Err column
in_column column (Some a) = Ok a

-- the fields of a line, as many as wanted; column 0 where they aren't, or where the line isn't plain
abbrev pub columns : ℕ → List ℕ → Result (List (List ℕ)) ℕ
columns count line = if plain_line line && (length (cut line) == count) then Ok (cut line) else Err 0

-- the field of a column, counted from 1
abbrev pub field : List (List ℕ) → ℕ → List ℕ
field fields column = slice_index_or fields (column - 1) []

abbrev pub place_row : TextLine → Result PlaceRow ℕ
place_row line = do
  fields ← columns 2 line.bytes
  place ← in_column 1 (place_of (field fields 1))
  connect ← in_column 2 (number_within 0 1440 (field fields 2))
  Ok (record { line = line.line; place = place; connect = connect })

abbrev pub flight_row : TextLine → Result FlightRow ℕ
flight_row line = do
  fields ← columns 12 line.bytes
  carrier ← in_column 1 (carrier_of (field fields 1))
  number ← in_column 2 (number_within 1 9999 (field fields 2))
  from ← in_column 3 (place_of (field fields 3))
  to ← in_column 4 (place_of (field fields 4))
  dep ← in_column 5 (minute_spelled (field fields 5))
  dep_offset ← in_column 6 (offset_spelled (field fields 6))
  arr ← in_column 7 (minute_spelled (field fields 7))
  arr_offset ← in_column 8 (offset_spelled (field fields 8))
  shift ← in_column 9 (shift_of (field fields 9))
  first ← in_column 10 (day_spelled (field fields 10))
  last ← in_column 11 (day_spelled (field fields 11))
  days ← in_column 12 (weekdays_of (field fields 12))
  Ok (record { line = line.line; carrier = carrier; number = number; from = from; to = to; dep = dep; dep_offset = dep_offset; arr = arr; arr_offset = arr_offset; shift = shift; first = first; last = last; days = days })

abbrev pub seat_row : TextLine → Result SeatRow ℕ
seat_row line = do
  fields ← columns 5 line.bytes
  carrier ← in_column 1 (carrier_of (field fields 1))
  number ← in_column 2 (number_within 1 9999 (field fields 2))
  from ← in_column 3 (place_of (field fields 3))
  day ← in_column 4 (seat_day_of (field fields 4))
  seats ← in_column 5 (seats_of (field fields 5))
  Ok (record { line = line.line; carrier = carrier; number = number; from = from; day = day; seats = seats })
