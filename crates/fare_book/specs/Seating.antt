-- Seats that are held, against those that a timetable or a book has.
use Rattle.std.specs.Prelude.{◌≡◌, ◌≤◌, ℕ, List, length}
use Rattle.fare_law.specs.declared.filings.SeatKey.{SeatKey}
use Rattle.fare_law.specs.declared.rows.SeatRow.{SeatRow}
use Rattle.fare_law.specs.Book.{Book, live_seats}
use Rattle.seat_classes.specs.Given.{rows_have}
use Rattle.seat_classes.specs.Held.{seats_at}
use Rattle.fare_law.specs.declared.limits.TheConstants.{MOST_SEAT_ROWS}

-- each key has the seats that these rows give it, and there are at most `MOST_SEAT_ROWS` rows
pub record SeatsRows (rows : List SeatRow) (held : List (SeatKey × List ℕ)) : Type 0 where
  pub each : (key : SeatKey) → seats_at held key ≡ rows_have rows key
  pub few : length rows ≤ MOST_SEAT_ROWS

-- each key has its live seats
abbrev pub SeatsBook : Book → List (SeatKey × List ℕ) → Type 0
SeatsBook b held = (key : SeatKey) → seats_at held key ≡ live_seats b key
