-- The dates that texts spell are those that they write: what `day_text` and the laws on dates need. This file is given on to the crates above.
use Rattle.std.proofs.Common.{◌≡◌, ℕ, ◌+◌, ◌*◌, ◌-◌, ◌/◌, ◌%◌, ◌≤◌, ◌==◌, ◌&&◌, true, sym, arith, ℤ, pos, ◌≤ℤ◌, List, [], ◌∷◌, Some, length, ap, ◌∙◌}
use Rattle.std.specs.Int.{IsInRange}
use Rattle.std.proofs.lemmas.Bool.Decides.{nat_tests}
use Rattle.jiff_core.specs.declared.civil.date.Date.{Date}
use Rattle.jiff_core.specs.Calendar.{IsYear, days_from_civil, days_in_month}
use Rattle.jiff_core.proofs.DateLemmas.{epoch_day_injective}
use Rattle.jiff_core.proofs.SignedLemmas.{signed_arith}
use Rattle.market_time.proofs.CenturyLemmas.{IsInCentury-date}
use Rattle.market_time.proofs.DigitLemmas.{let_through, is_number, digits_in_range, two_hold, seven_hold}
use Rattle.market_time.specs.Digits.{has_two_digits}
use Rattle.market_time.specs.Dates.{IsInCentury, is_date, has_date_form, year_in, month_in, day_in, day_spelled, date_text, WritesDay}

-- bytes of the form YYYY-MM-DD are the text of the date that they write
listed : (a b c d e f g h : ℕ) → IsInRange 48 57 a → IsInRange 48 57 b → IsInRange 48 57 c → IsInRange 48 57 d → IsInRange 48 57 e → IsInRange 48 57 f → IsInRange 48 57 g → IsInRange 48 57 h → a ∷ b ∷ c ∷ d ∷ 45 ∷ e ∷ f ∷ 45 ∷ g ∷ h ∷ [] ≡ date_text (100 * (10 * (a - 48) + (b - 48)) + (10 * (c - 48) + (d - 48))) (10 * (e - 48) + (f - 48)) (10 * (g - 48) + (h - 48))
listed a b c d e f g h ra rb rc rd re rf rg rh =
    let year = 100 * (10 * (a - 48) + (b - 48)) + (10 * (c - 48) + (d - 48)) in
    let month = 10 * (e - 48) + (f - 48) in
    let day = 10 * (g - 48) + (h - 48) in
    let ea : a ≡ 48 + year / 100 / 10 = omega arith in
    let eb : b ≡ 48 + year / 100 % 10 = omega arith in
    let ec : c ≡ 48 + year % 100 / 10 = omega arith in
    let ed : d ≡ 48 + year % 100 % 10 = omega arith in
    let ee : e ≡ 48 + month / 10 = omega arith in
    let ef : f ≡ 48 + month % 10 = omega arith in
    let eg : g ≡ 48 + day / 10 = omega arith in
    let eh : h ≡ 48 + day % 10 = omega arith in
    cc

date_text-form : (text : List ℕ) → has_date_form text ≡ true → text ≡ date_text (year_in text) (month_in text) (day_in text)
date_text-form (a ∷ b ∷ c ∷ d ∷ e ∷ f ∷ g ∷ h ∷ i ∷ j ∷ []) form =
    let text = a ∷ b ∷ c ∷ d ∷ e ∷ f ∷ g ∷ h ∷ i ∷ j ∷ [] in
    let tests = seven_hold (length text == 10) (has_two_digits text 0) (has_two_digits text 2) (e == 45) (has_two_digits text 5) (h == 45) (has_two_digits text 8) form in
    let century = digits_in_range a b tests.1 in
    let year = digits_in_range c d tests.2 in
    let month = digits_in_range f g tests.4 in
    let day = digits_in_range i j tests.6 in
    let dash : e ≡ 45 = is_number e 45 tests.3 in
    let next_dash : h ≡ 45 = is_number h 45 tests.5 in
    let same : text ≡ a ∷ b ∷ c ∷ d ∷ 45 ∷ f ∷ g ∷ 45 ∷ i ∷ j ∷ [] = cc in
    same ∙ listed a b c d f g i j century.0 century.1 year.0 year.1 month.0 month.1 day.0 day.1
date_text-form text form = absurd (grind (arith, nat_tests))

is_date_range : (y m d : ℕ) → is_date y m d ≡ true → IsInRange 2000 2099 y × IsInRange 1 12 m × IsInRange 1 (days_in_month (pos y) m) d
is_date_range y m d h = grind (arith, nat_tests)

is_date-in_range : (y m d : ℕ) → IsInRange 2000 2099 y → IsInRange 1 12 m → IsInRange 1 (days_in_month (pos y) m) d → is_date y m d ≡ true
is_date-in_range y m d year month day = grind (arith, nat_tests)

-- a text that spells a day writes it
pub WritesDay-spelled : (text : List ℕ) (day : ℤ) → day_spelled text ≡ Some day → WritesDay text day
unfolding day_spelled
WritesDay-spelled text day h =
    let year = year_in text in
    let month = month_in text in
    let day_of_month = day_in text in
    let read = let_through (has_date_form text && is_date year month day_of_month) (days_from_civil (pos year) month day_of_month) day h in
    let tests = two_hold (has_date_form text) (is_date year month day_of_month) read.0 in
    let ranges = is_date_range year month day_of_month tests.1 in
    record {
      year = year;
      month = month;
      day_of_month = day_of_month;
      in_century = ranges.0;
      in_year = ranges.1;
      in_month = ranges.2;
      written = date_text-form text tests.0;
      counted = read.1;
    }

form_of_digits : (a b c d e f g h : ℕ) → a ≤ 9 → b ≤ 9 → c ≤ 9 → d ≤ 9 → e ≤ 9 → f ≤ 9 → g ≤ 9 → h ≤ 9 → has_date_form ((48 + a) ∷ (48 + b) ∷ (48 + c) ∷ (48 + d) ∷ 45 ∷ (48 + e) ∷ (48 + f) ∷ 45 ∷ (48 + g) ∷ (48 + h) ∷ []) ≡ true
form_of_digits a b c d e f g h la lb lc ld le lf lg lh = grind (arith, nat_tests)

read_as : (text : List ℕ) (y m d : ℕ) → has_date_form text ≡ true → year_in text ≡ y → month_in text ≡ m → day_in text ≡ d → is_date y m d ≡ true → day_spelled text ≡ Some (days_from_civil (pos y) m d)
unfolding day_spelled
read_as text y m d form year month day date = rw (form, year, month, day, date)

days_in_month_bound : (y : ℤ) (m : ℕ) → days_in_month y m ≤ 31
days_in_month_bound y m = grind arith

-- a text that writes a date spells its day
pub day_spelled-date_text : (text : List ℕ) (y m d : ℕ) → IsInRange 2000 2099 y → IsInRange 1 12 m → IsInRange 1 (days_in_month (pos y) m) d → text ≡ date_text y m d → day_spelled text ≡ Some (days_from_civil (pos y) m d)
day_spelled-date_text text y m d year month day written =
    let short = days_in_month_bound (pos y) m in
    let form = form_of_digits (y / 100 / 10) (y / 100 % 10) (y % 100 / 10) (y % 100 % 10) (m / 10) (m % 10) (d / 10) (d % 10) (omega arith) (omega arith) (omega arith) (omega arith) (omega arith) (omega arith) (omega arith) (omega arith) in
    ap day_spelled written ∙ read_as (date_text y m d) y m d form (omega arith) (omega arith) (omega arith) (is_date-in_range y m d year month day)

pub day_spelled-WritesDay : (text : List ℕ) (day : ℤ) → WritesDay text day → day_spelled text ≡ Some day
day_spelled-WritesDay text day w =
    day_spelled-date_text text w.year w.month w.day_of_month w.in_century w.in_year w.in_month w.written ∙ ap Some (sym w.counted)

pub IsInCentury-spelled : (text : List ℕ) (day : ℤ) → day_spelled text ≡ Some day → IsInCentury day
IsInCentury-spelled text day h =
    let w = WritesDay-spelled text day h in
    let low : pos 2000 ≤ℤ pos w.year = omega (arith, signed_arith) in
    let high : pos w.year ≤ℤ pos 2099 = omega (arith, signed_arith) in
    let year : IsYear (pos w.year) = (omega (arith, signed_arith), omega (arith, signed_arith)) in
    rw w.counted (IsInCentury-date (pos w.year) w.month w.day_of_month low high (year, w.in_year, w.in_month))

-- the date that a text writes, as the calendar's own
calendar_date : (text : List ℕ) (day : ℤ) → WritesDay text day → Date
calendar_date text day w = record {
  year = pos w.year;
  month = w.month;
  day = w.day_of_month;
  year_in = (omega (arith, signed_arith), omega (arith, signed_arith));
  month_in = w.in_year;
  day_in = w.in_month;
}

-- a day is written in one way
pub day_spelled_once : (one other : List ℕ) (day : ℤ) → day_spelled one ≡ Some day → day_spelled other ≡ Some day → one ≡ other
unfolding calendar_date
day_spelled_once one other day h k =
    let a = WritesDay-spelled one day h in
    let b = WritesDay-spelled other day k in
    let same = epoch_day_injective (calendar_date one day a) (calendar_date other day b) (sym a.counted ∙ b.counted) in
    let years : a.year ≡ b.year = omega (arith, signed_arith, same.0) in
    let months : a.month ≡ b.month = same.1 in
    let days : a.day_of_month ≡ b.day_of_month = same.2 in
    a.written ∙ (rw (years, months, days) (sym b.written))
