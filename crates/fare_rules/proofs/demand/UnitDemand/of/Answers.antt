use Rattle.std.proofs.Common.{FitsSigned, w32}
use Rattle.std.proofs.lemmas.Int.{to_z-of_z}
use Rattle.fare_rules.proofs.RangeLemmas.{fields_within}
use Rattle.fare_rules.proofs.demand.UnitDemand.of.Goals as goal

pub returns-clause-in_range : goal.returns-clause-in_range
returns-clause-in_range c high stays =
    let fits : FitsSigned w32 c.args.first_day = c.ranges.first_day in
    let least = simp to_z-of_z at c.least_return.ensures in
    let greatest = simp to_z-of_z at c.greatest_return.ensures in
    fields_within c.args.rule.now c.args.first_day _ _ _ _ _ least greatest c.last_departure.ensures c.kinds_of.ensures c.partner_of.ensures (c.requires.low, high) stays
