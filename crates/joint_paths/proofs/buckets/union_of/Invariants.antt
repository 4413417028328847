use Rattle.std.proofs.Common.{take}
use Rattle.fare_ends.specs.Legs.{AreAmong}
use Rattle.fare_law.specs.Lists.{IsIn}
use Rattle.joint_paths.specs.declared.crossing_heads.CrossingHead.{CrossingHead}
use Rattle.joint_paths.proofs.buckets.union_of.Given as goal

abbrev pub invariant-loop-head : goal.invariant-loop-head
invariant-loop-head l = (h : CrossingHead) → IsIn h (take l.head-index l.heads) → AreAmong h.classes l.classes
