use Rattle.std.proofs.Common.{take}
use Rattle.fare_groups.specs.Grouping.{IsFinished}
use Rattle.fare_law.specs.Lists.{Matched}
use Rattle.fare_groups.proofs.grouping.finished_groups.Given as goal

abbrev pub invariant-loop-group : goal.invariant-loop-group
invariant-loop-group l = Matched IsFinished (take l.group-index l.gathered) l.groups.items
