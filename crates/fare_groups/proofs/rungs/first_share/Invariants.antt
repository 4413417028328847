use Rattle.std.proofs.Common.{◌≡◌, drop}
use Rattle.fare_groups.specs.Grouping.{first_share}
use Rattle.fare_groups.proofs.rungs.first_share.Given as goal

abbrev pub invariant-loop-rung : goal.invariant-loop-rung
invariant-loop-rung l = first_share l.rungs l.classes ≡ first_share (drop l.rung-index l.rungs) l.classes
