use Rattle.std.proofs.Common.{take}
use Rattle.certificate_check.specs.Bounds.{Allows}
use Rattle.fare_law.specs.Lists.{Each}
use Rattle.graph_walk.specs.Steps.{outcomes_of}
use Rattle.search_steps.specs.Keys.{state}
use Rattle.certificate_check.proofs.bounding.all_allow.Given as goal

abbrev pub invariant-loop-outcome : goal.invariant-loop-outcome
invariant-loop-outcome l = Each (λ o. Allows l.table.rows.now l.row o.next o.price) (outcomes_of (state l.steps) (take l.outcome-index l.outcomes))
