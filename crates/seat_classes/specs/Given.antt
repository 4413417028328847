-- Seat rows that are given as a list.
use Rattle.std.specs.Prelude.{◌≡◌, ℕ, List, ◌∷◌, ◌++◌, Option, option_map, find, map}
use Rattle.fare_law.specs.declared.filings.SeatKey.{SeatKey}
use Rattle.fare_law.specs.declared.rows.SeatRow.{SeatRow}
use Rattle.fare_law.specs.Book.{row_key, same_seat_key}
use Rattle.fare_law.specs.Lists.{AllDifferent, IsIn}
use Rattle.seat_classes.specs.declared.faults.SeatFault.{SeatFault}
use Rattle.seat_classes.specs.declared.faults.SeatFault.TheVariants.{Twice, Mem}

-- the seats of a key, where a row has it
abbrev pub rows_have : List SeatRow → SeatKey → Option (List ℕ)
rows_have rows key = option_map (λ row. row.seats) (find (λ row. same_seat_key key (row_key row)) rows)

-- the line of the first row that has the key of an earlier one
pub record FirstRepeat (rows : List SeatRow) (line : ℕ) : Type 0 where
  pub before : List SeatRow
  pub row : SeatRow
  pub after : List SeatRow
  pub split : rows ≡ before ++ row ∷ after
  pub differ : AllDifferent (map row_key before)
  pub repeated : IsIn (row_key row) (map row_key before)
  pub at : line ≡ row.line

-- a refusal has its cause
abbrev pub HasCause : List SeatRow → SeatFault → Type 0
HasCause rows (Twice line) = FirstRepeat rows line
HasCause rows Mem = Unit {0}
