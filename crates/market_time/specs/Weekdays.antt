-- Weekdays.
use Rattle.std.specs.Prelude.{ℕ, ℤ, nat_abs, ◌+◌, ◌%◌}

-- 1 for Monday to 7 for Sunday, of a day that is at least 0. Day 0 is a Thursday
abbrev pub weekday_of : ℤ → ℕ
weekday_of day = (nat_abs day + 3) % 7 + 1
