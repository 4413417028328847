-- The parts that stand in several categories of a rule: numbers, days, times, ranges, numbers in order.
use Rattle.std.specs.Prelude.{ℕ, ℤ, ◌+◌, List, [], ◌∷◌, Bool, true, ◌&&◌, nat_le, int_le, if◌then◌else◌, Option, Some, None, option_and_then, Result, ok_or}
use Rattle.serde_json.specs.Data.{Data}
use Rattle.serde_json.specs.Find.{get, at, as_number, as_u64, as_bool, as_str}
use Rattle.fare_law.specs.declared.names.Place.{Place}
use Rattle.fare_law.specs.declared.rules.DayRange.{DayRange}
use Rattle.fare_law.specs.declared.rules.FlightRange.{FlightRange}
use Rattle.market_time.specs.Clock.{minute_spelled}
use Rattle.market_time.specs.Dates.{day_spelled}
use Rattle.name_text.specs.Names.{carrier_of, place_of}
use Rattle.json_form.specs.Members.{text_at}
use Rattle.rule_text.specs.Members.{has_items}
use Rattle.rule_text.specs.declared.fault.RuleFault.{RuleFault}
use Rattle.rule_text.specs.declared.fault.RuleFault.TheVariants.{Range}

infixl 10 ◌>>=◌
-- one thing after another, as long as each is there
abbrev pub ◌>>=◌ : {A B : Type 0} → Option A → (A → Option B) → Option B
o >>= f = option_and_then f o

-- a whole number from low to high
abbrev pub number_of : ℕ → ℕ → Data → Option ℕ
number_of low high d =
    option_and_then (λ n. if nat_le low n && nat_le n high then Some n else None)
    (option_and_then as_u64 (as_number d))

-- a date, as its day
abbrev pub day_of : Data → Option ℤ
day_of d = option_and_then day_spelled (as_str d)

-- a place by its name
abbrev pub place_named : Data → Option Place
place_named d = option_and_then place_of (as_str d)

-- two dates in a list, the first not after the second
abbrev pub day_range : Data → Option DayRange
day_range d = if has_items 2 d then (do
  first ← option_and_then day_of (at 0 d)
  last ← option_and_then day_of (at 1 d)
  if int_le first last then Some (record { first = first; last = last }) else None) else None

-- a carrier and two flight numbers in a list, the first not above the second
abbrev pub flight_range : Data → Option FlightRange
flight_range d = if has_items 3 d then (do
  carrier ← option_and_then carrier_of (option_and_then as_str (at 0 d))
  low ← option_and_then (number_of 1 9999) (at 1 d)
  high ← option_and_then (number_of 1 9999) (at 2 d)
  if nat_le low high then Some (record { carrier = carrier; low = low; high = high }) else None) else None

-- the same as parts of a rule: any other value is out of range

abbrev pub days_of : Data → Result ℕ RuleFault
days_of d = ok_or (number_of 0 365 d) Range

-- 1 for Monday to 7 for Sunday
abbrev pub weekday_of : Data → Result ℕ RuleFault
weekday_of d = ok_or (number_of 1 7 d) Range

abbrev pub date_of : Data → Result ℤ RuleFault
date_of d = ok_or (day_of d) Range

abbrev pub place_form : Data → Result Place RuleFault
place_form d = ok_or (place_named d) Range

abbrev pub day_range_of : Data → Result DayRange RuleFault
day_range_of d = ok_or (day_range d) Range

abbrev pub flight_range_of : Data → Result FlightRange RuleFault
flight_range_of d = ok_or (flight_range d) Range

-- a member that is true or false
abbrev pub truth_at : List ℕ → Data → Option Bool
truth_at name d = option_and_then as_bool (get name d)

-- a member that is a time of day, as its minute
abbrev pub minute_at : List ℕ → Data → Option ℕ
minute_at name d = option_and_then minute_spelled (text_at name d)

-- items whose ranks are each at least this, and each beyond the one before
abbrev pub ascend_from : {A : Type 0} → (A → ℕ) → ℕ → List A → Bool
ascend_from rank least [] = true
ascend_from rank least (x ∷ xs) = nat_le least (rank x) && ascend_from rank (rank x + 1) xs

-- items in the order of their ranks, each at most once
abbrev pub ascend : {A : Type 0} → (A → ℕ) → List A → Bool
ascend rank xs = ascend_from rank 0 xs
