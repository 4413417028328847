-- The dates from 2000-01-01 to 2099-12-31 are the days from `FIRST_DAY` to `LAST_DAY`: what the range of `day_of` and the year of `day_text` need.
use Rattle.std.proofs.Common.{◌≡◌, ℕ, Bool, true, false, refl, ◌<◌, ◌≤◌, arith, Option, Some, None, if◌then◌else◌, IfSome, IfOk, Result, ok_or, ℤ, pos, ◌≤ℤ◌}
use Rattle.std.proofs.lemmas.Bool.Decides.{nat_tests}
use Rattle.std.proofs.lemmas.Int.{by_lt_z}
use Rattle.jiff_core.specs.Calendar.{day_count, days_from_civil, days_in_month, IsCivilDate}
use Rattle.jiff_core.proofs.SignedLemmas.{signed_arith}
use Rattle.jiff_core.proofs.MarchLemmas.{day_count-early}
use Rattle.jiff_core.proofs.CalendarLemmas.{days_from_civil-day_count, day_count-day_of_year, day_of_year_bound, day_count-later_year, days_in_year_bounds}
use Rattle.market_time.specs.Dates.{IsInCentury, is_date}

-- the days before the years 2000 and 2100, counted from the year -10000
day_count-2000 : day_count (pos 2000) 1 1 ≡ 4_382_910
day_count-2000 = day_count-early (pos 2000) 11999 1 1 refl (omega arith) (omega arith) (omega arith)

day_count-2100 : day_count (pos 2100) 1 1 ≡ 4_419_435
day_count-2100 = day_count-early (pos 2100) 12099 1 1 refl (omega arith) (omega arith) (omega arith)

day_count-1999 : day_count (pos 1999) 1 1 ≡ 4_382_545
day_count-1999 = day_count-early (pos 1999) 11998 1 1 refl (omega arith) (omega arith) (omega arith)

day_count-2099 : day_count (pos 2099) 1 1 ≡ 4_419_070
day_count-2099 = day_count-early (pos 2099) 12098 1 1 refl (omega arith) (omega arith) (omega arith)

-- a date of these years lies among these days
pub IsInCentury-date : (y : ℤ) (m d : ℕ) → pos 2000 ≤ℤ y → y ≤ℤ pos 2099 → IsCivilDate y m d → IsInCentury (days_from_civil y m d)
IsInCentury-date y m d low high h =
    let first = day_count-later_year (pos 1999) y (omega (arith, signed_arith)) (omega (arith, signed_arith)) in
    let last = day_count-later_year y (pos 2100) (omega (arith, signed_arith)) (omega (arith, signed_arith)) in
    let here = day_count-day_of_year y m d h.2.0 in
    let fits = day_of_year_bound y m d h in
    let day = days_from_civil-day_count y m d in
    let count : (4_382_910 ≤ day_count y m d) × (day_count y m d < 4_419_435) = omega (arith, day_count-1999, day_count-2100, days_in_year_bounds (pos 1999), h.2.0) in
    (omega (arith, signed_arith), omega (arith, signed_arith))

-- and a date of these days is of one of these years
pub year_of_day : (y : ℤ) (m d : ℕ) → IsCivilDate y m d → IsInCentury (days_from_civil y m d) → (pos 2000 ≤ℤ y) × (y ≤ℤ pos 2099)
year_of_day y m d h day =
    let here = day_count-day_of_year y m d h.2.0 in
    let fits = day_of_year_bound y m d h in
    let count = days_from_civil-day_count y m d in
    let low : 4_382_910 ≤ day_count y m d = omega (arith, signed_arith) in
    let high : day_count y m d < 4_419_435 = omega (arith, signed_arith) in (
      by_lt_z y (pos 2000)
          (λ lt. absurd (omega (arith, day_count-later_year y (pos 2000) (omega (arith, signed_arith)) lt, day_count-2000)))
          (λ le. le),
      by_lt_z (pos 2099) y
          (λ lt. absurd (omega (arith, day_count-later_year (pos 2099) y (omega (arith, signed_arith)) lt, day_count-2099, days_in_year_bounds (pos 2099), h.2.0)))
          (λ le. le),
    )

-- what a test lets through
IfSome-if : {A : Type 0} (P : A → Type 0) (test : Bool) (x : A) → (test ≡ true → P x) → IfSome (if test then Some x else None) P
IfSome-if P true x h = h refl
IfSome-if P false x h = tt

IsInCentury-if_date : (y m d : ℕ) → is_date y m d ≡ true → IsInCentury (days_from_civil (pos y) m d)
IsInCentury-if_date y m d h =
    let year : (2000 ≤ y) × (y ≤ 2099) = grind (arith, nat_tests) in
    let month : (1 ≤ m) × (m ≤ 12) = grind (arith, nat_tests) in
    let day : (1 ≤ d) × (d ≤ days_in_month (pos y) m) = grind (arith, nat_tests) in
    let low : pos 2000 ≤ℤ pos y = omega (arith, signed_arith) in
    let high : pos y ≤ℤ pos 2099 = omega (arith, signed_arith) in
    IsInCentury-date (pos y) m d low high ((omega (arith, signed_arith), omega (arith, signed_arith)), month, day)

IfOk-ok_or : {E : Type 0} (o : Option ℤ) (e : E) → IfSome o IsInCentury → IfOk (ok_or o e) IsInCentury
IfOk-ok_or (Some day) e h = h
IfOk-ok_or None e h = tt

-- a result that tells the day of a date
pub IsInCentury-ok_or : {E : Type 0} (r : Result ℤ E) (o : Option ℤ) (e : E) (y m d : ℕ) → o ≡ (if is_date y m d then Some (days_from_civil (pos y) m d) else None) → r ≡ ok_or o e → IfOk r IsInCentury
IsInCentury-ok_or r o e y m d number told =
    let dated : IfSome o IsInCentury = rw number (IfSome-if IsInCentury (is_date y m d) (days_from_civil (pos y) m d) (IsInCentury-if_date y m d)) in
    rw told (IfOk-ok_or o e dated)
