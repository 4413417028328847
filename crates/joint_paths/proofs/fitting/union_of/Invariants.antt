use Rattle.std.proofs.Common.{ℕ, take}
use Rattle.fare_ends.specs.Legs.{AreAmong}
use Rattle.fare_law.specs.Lists.{IsIn}
use Rattle.joint_paths.specs.declared.fitting.FittingHead.{FittingHead}
use Rattle.joint_paths.proofs.fitting.union_of.Given as goal

abbrev pub invariant-loop-head : goal.invariant-loop-head
invariant-loop-head l = record {
  each : (h : FittingHead) → IsIn h (take l.head-index l.heads) → AreAmong h.classes l.classes;
  least : (more : ℕ) → ((h : FittingHead) → IsIn h (take l.head-index l.heads) → AreAmong h.classes more) → AreAmong l.classes more;
}
