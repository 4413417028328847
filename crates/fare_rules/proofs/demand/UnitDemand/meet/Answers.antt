use Rattle.std.proofs.Common.{◌≡◌, subst, sym, bit_and}
use Rattle.fare_rules.specs.declared.demand.UnitDemand.{UnitDemand}
use Rattle.fare_rules.specs.Demands.{met}
use Rattle.fare_rules.specs.Meeting.{MeetsBoth}
use Rattle.fare_rules.proofs.MeetingLemmas.{meets_both}
use Rattle.fare_rules.specs.Ranges.{DemandInRange}
use Rattle.fare_rules.proofs.RangeLemmas.{met_within}
use Rattle.fare_rules.proofs.demand.UnitDemand.meet.Goals as goal

pub returns-clause-both : goal.returns-clause-both
returns-clause-both c =
    let d = c.args.self.now in
    let e = c.args.other.now in
    let same : ◌≡◌ {A = UnitDemand} (record { min_return = c.later.result; max_return = c.earlier.result; by = c.earlier-2.result; kinds = bit_and d.kinds e.kinds; partner = c.max.result }) (met d e) = cc in
    subst (λ (x : UnitDemand). MeetsBoth x d e) (sym same) (meets_both d e)

pub returns-clause-in_range : goal.returns-clause-in_range
returns-clause-in_range c in_range other_in_range =
    let d = c.args.self.now in
    let e = c.args.other.now in
    let same : ◌≡◌ {A = UnitDemand} (record { min_return = c.later.result; max_return = c.earlier.result; by = c.earlier-2.result; kinds = bit_and d.kinds e.kinds; partner = c.max.result }) (met d e) = cc in
    subst (λ (x : UnitDemand). DemandInRange x) (sym same) (met_within d e in_range other_in_range)
