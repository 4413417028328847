use Rattle.std.proofs.Common.{◌≡◌, map, rules}
use Rattle.std.specs.Arc.{arc_value}
use Rattle.fare_law.specs.FilingLimits.{IsFiling}
use Rattle.lowfare.proofs.ServeMakes.{shared_such}
use Rattle.lowfare.proofs.workloads.shared.Goals as goal

-- what is shared are the filings
pub returns-clause-limits : goal.returns-clause-limits
returns-clause-limits c =
    let same : map arc_value c.loop-filing.shared ≡ c.args.filings = search rules in
    shared_such IsFiling c.loop-filing.shared c.args.filings same c.requires
