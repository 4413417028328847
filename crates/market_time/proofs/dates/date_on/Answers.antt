use Rattle.std.proofs.Common.{arith}
use Rattle.jiff_core.specs.Calendar.{days_from_civil}
use Rattle.jiff_core.proofs.SignedLemmas.{signed_arith}
use Rattle.market_time.specs.Dates.{IsInCentury}
use Rattle.market_time.proofs.CenturyLemmas.{year_of_day}
use Rattle.market_time.proofs.dates.date_on.Goals as goal

pub returns-clause-year : goal.returns-clause-year
returns-clause-year c =
    let date = c.unwrap.result in
    let day = rw c.unwrap.ensures at c.from_unix_epoch_day.ensures.value in
    let in_century : IsInCentury (days_from_civil date.year date.month date.day) = (omega (arith, signed_arith, c.from.ensures), omega (arith, signed_arith, c.from.ensures)) in
    year_of_day date.year date.month date.day (date.year_in, date.month_in, date.day_in) in_century
