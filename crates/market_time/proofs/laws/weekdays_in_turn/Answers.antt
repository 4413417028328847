use Rattle.std.proofs.Common.{◌≡◌, ◌+◌, arith, ℤ, pos, negsuc, ◌≤ℤ◌}
use Rattle.jiff_core.specs.Calendar.{weekday_number}
use Rattle.jiff_core.proofs.CalendarLemmas.{weekday_number-parts}
use Rattle.jiff_core.proofs.SignedLemmas.{signed_arith}
use Rattle.market_time.specs.Weekdays.{weekday_of}
use Rattle.market_time.proofs.laws.weekdays_in_turn.Goals as goal

calendar_weekday : (day : ℤ) → pos 0 ≤ℤ day → weekday_of day ≡ weekday_number day + 1
calendar_weekday (pos n) low = omega (arith, signed_arith, weekday_number-parts (pos n))
calendar_weekday (negsuc n) low = absurd (omega (arith, signed_arith))

pub returns-clause-calendar : goal.returns-clause-calendar
returns-clause-calendar c = calendar_weekday
