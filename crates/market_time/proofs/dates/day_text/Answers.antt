use Rattle.std.proofs.Common.{arith, ◌≡◌, pos, ℤ, unsigned_abs, ◌/◌, ◌%◌, ◌+◌, ◌∙◌, ap, subst, sym, Some, [], ◌∷◌}
use Rattle.std.specs.Int.{IsInRange}
use Rattle.jiff_core.specs.Calendar.{days_from_civil, days_in_month}
use Rattle.jiff_core.proofs.SignedLemmas.{signed_casts}
use Rattle.market_time.specs.Dates.{date_text}
use Rattle.market_time.proofs.TextLemmas.{day_spelled-date_text}
use Rattle.market_time.proofs.dates.day_text.Goals as goal

pub returns-clause-day : goal.returns-clause-day
returns-clause-day c =
    let date = c.date_on-date.result in
    let y = unsigned_abs date.year in
    let year : date.year ≡ pos y = omega (arith, signed_casts) in
    let in_month : ℤ → Type 0 = λ of_year. IsInRange 1 (days_in_month of_year date.month) date.day in
    let first : 50 ≡ 48 + y / 100 / 10 = omega (arith, signed_casts) in
    let second : 48 ≡ 48 + y / 100 % 10 = omega (arith, signed_casts) in
    let third : c.tens.result ≡ 48 + y % 100 / 10 = omega (arith, signed_casts) in
    let fourth : c.units.result ≡ 48 + y % 100 % 10 = omega (arith, signed_casts) in
    let written : 50 ∷ 48 ∷ c.tens.result ∷ c.units.result ∷ 45 ∷ c.tens-2.result ∷ c.units-2.result ∷ 45 ∷ c.tens-3.result ∷ c.units-3.result ∷ [] ≡ date_text y date.month date.day = cc in
    let counted : days_from_civil (pos y) date.month date.day ≡ c.args.day = rw (sym year) (omega (arith, signed_casts)) in
    day_spelled-date_text _ y date.month date.day (omega (arith, signed_casts), omega (arith, signed_casts)) date.month_in (subst in_month year date.day_in) written ∙ ap Some counted
