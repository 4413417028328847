-- Days and weekdays.
use Rattle.std.specs.Prelude.{ℕ, ℤ, pos, neg_ℤ, nat_abs, ◌+◌, ◌-◌, ◌%◌, ◌<◌, ◌≤ℤ◌, ◌+ℤ◌, List, Any}
use Rattle.fare_law.specs.declared.rules.DayRange.{DayRange}
use Rattle.fare_law.specs.declared.limits.TheConstants.{FIRST_DAY, LAST_DAY}

-- the days from 2000-01-01 to 2099-12-31
abbrev pub IsCalendarDay : ℤ → Type 0
IsCalendarDay day = (FIRST_DAY ≤ℤ day) × (day ≤ℤ LAST_DAY)

-- minutes since 1970-01-01 00:00 in universal time, far enough for each flight of these days
abbrev pub IsInstant : ℤ → Type 0
IsInstant t = (pos 0 ≤ℤ t) × (t ≤ℤ pos 100000000)

-- a minute of a day
abbrev pub IsMinute : ℕ → Type 0
IsMinute minute = minute < 1440

-- the offset of a local time, in minutes: at most fourteen hours
abbrev pub IsOffset : ℤ → Type 0
IsOffset offset = (neg_ℤ (pos 840) ≤ℤ offset) × (offset ≤ℤ pos 840)

-- by how many days the local day of an arrival differs
abbrev pub IsShift : ℤ → Type 0
IsShift shift = (neg_ℤ (pos 1) ≤ℤ shift) × (shift ≤ℤ pos 2)

-- 1 for Monday to 7 for Sunday. Day 0 is a Thursday
abbrev pub weekday : ℤ → ℕ
weekday day = (nat_abs day + 3) % 7 + 1

-- the first Sunday strictly after a day: days on from Saturday's weekday are counted from 6 down, from a Sunday 7
unfoldable pub first_sunday_after : ℤ → ℤ
first_sunday_after day = day +ℤ pos (7 - weekday day % 7)

abbrev pub InRange : ℤ → DayRange → Type 0
InRange day range = (range.first ≤ℤ day) × (day ≤ℤ range.last)

abbrev pub InSomeRange : ℤ → List DayRange → Type 0
InSomeRange day ranges = Any (InRange day) ranges
