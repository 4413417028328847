use Rattle.std.proofs.Common.{◌+◌, ◌*◌}
use Rattle.market_time.proofs.CenturyLemmas.{IsInCentury-ok_or}
use Rattle.market_time.proofs.dates.day_of.Goals as goal

pub returns-clause-range : goal.returns-clause-range
returns-clause-range c =
    let year = 100 * c.from.result + c.from-2.result in
    IsInCentury-ok_or _ _ _ year c.two_digits-3.result c.two_digits-4.result c.day_number.ensures c.ok_or.ensures.value
