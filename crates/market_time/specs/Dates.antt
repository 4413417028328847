-- Dates as text, and the days that they name. A day is the number of days since 1970-01-01.
use Rattle.std.specs.Prelude.{◌≡◌, ℕ, ℤ, pos, Bool, ◌+◌, ◌*◌, ◌/◌, ◌%◌, ◌&&◌, ◌==◌, nat_le, if◌then◌else◌, List, ◌∷◌, ◌++◌, length, slice_index, Option, Some, None}
use Rattle.std.specs.Int.{IsInRange}
use Rattle.fare_law.specs.declared.limits.TheConstants.{FIRST_DAY, LAST_DAY}
use Rattle.jiff_core.specs.Calendar.{days_from_civil, days_in_month, IsBetween}
use Rattle.market_time.specs.Digits.{has_two_digits, two_digits, digits_of}

-- the days from 2000-01-01 to 2099-12-31
abbrev pub IsInCentury : ℤ → Type 0
IsInCentury day = IsBetween FIRST_DAY LAST_DAY day

-- the calendar has this date, and it lies from 2000-01-01 to 2099-12-31
abbrev pub is_date : ℕ → ℕ → ℕ → Bool
is_date year month day =
    nat_le 2000 year && nat_le year 2099 && nat_le 1 month && nat_le month 12
    && nat_le 1 day && nat_le day (days_in_month (pos year) month)

-- ten bytes YYYY-MM-DD: digits, with a dash before the month and before the day
abbrev pub has_date_form : List ℕ → Bool
has_date_form text =
    (length text == 10) && has_two_digits text 0 && has_two_digits text 2
    && (slice_index text 4 == 45) && has_two_digits text 5
    && (slice_index text 7 == 45) && has_two_digits text 8

-- the year, the month and the day of the month that such bytes write
abbrev pub year_in : List ℕ → ℕ
year_in text = 100 * two_digits text 0 + two_digits text 2

abbrev pub month_in : List ℕ → ℕ
month_in text = two_digits text 5

abbrev pub day_in : List ℕ → ℕ
day_in text = two_digits text 8

-- the day that a text spells, if it spells one: YYYY-MM-DD from 2000-01-01 to 2099-12-31
unfoldable pub day_spelled : List ℕ → Option ℤ
day_spelled text =
    if has_date_form text && is_date (year_in text) (month_in text) (day_in text)
    then Some (days_from_civil (pos (year_in text)) (month_in text) (day_in text)) else None

-- a date written as YYYY-MM-DD
abbrev pub date_text : ℕ → ℕ → ℕ → List ℕ
date_text year month day =
    digits_of (year / 100) ++ (digits_of (year % 100) ++ (45 ∷ digits_of month ++ (45 ∷ digits_of day)))

-- the text is a date of the years 2000 to 2099, written so, and the day is the date's
pub record WritesDay (text : List ℕ) (day : ℤ) : Type 0 where
  pub year : ℕ
  pub month : ℕ
  pub day_of_month : ℕ
  pub in_century : IsInRange 2000 2099 year
  pub in_year : IsInRange 1 12 month
  pub in_month : IsInRange 1 (days_in_month (pos year) month) day_of_month
  pub written : text ≡ date_text year month day_of_month
  pub counted : day ≡ days_from_civil (pos year) month day_of_month
