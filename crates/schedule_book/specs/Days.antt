-- The days that a row names.
use Rattle.std.specs.Prelude.{ℕ, zero, suc, ℤ, pos, Bool, ◌&&◌, ◌+◌, ◌-◌, ◌==◌, ◌+ℤ◌, ◌^◌, not, int_le, cond, bit_and}
use Rattle.fare_law.specs.declared.rows.FlightRow.{FlightRow}
use Rattle.fare_law.specs.Days.{weekday}

-- the day is in the row's period, and its weekday is named
abbrev pub names : FlightRow → ℤ → Bool
names row day = int_le row.first day && (int_le day row.last && not (bit_and row.days (2 ^ (weekday day - 1)) == 0))

-- how many of the first n days of the period are named
abbrev pub named_of : FlightRow → ℕ → ℕ
named_of row zero = 0
named_of row (suc n) = named_of row n + cond (names row (row.first +ℤ pos n)) 1 0

-- how many dated flights a row stands for: a period has at most 366 days
abbrev pub named_days : FlightRow → ℕ
named_days row = named_of row 366
