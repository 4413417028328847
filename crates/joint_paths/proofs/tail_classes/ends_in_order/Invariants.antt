use Rattle.std.proofs.Common.{ℕ, ◌-◌, ◌<◌, ◌≤◌, length}
use Rattle.fare_law.specs.Lists.{Each, IsIn}
use Rattle.joint_paths.specs.declared.tail_classes.TailEnd.{TailEnd}
use Rattle.joint_paths.specs.Tails.{IsTailEnd}
use Rattle.joint_paths.proofs.tail_classes.ends_in_order.Given as goal

abbrev pub invariant-loop-from : goal.invariant-loop-from
invariant-loop-from l = record {
  within : l.from ≤ length l.classes;
  each : Each (IsTailEnd l.classes) l.ends.items;
  all : (n : ℕ) → n < l.from → (e : TailEnd) × IsIn e l.ends.items × (e.from ≤ n) × (n < e.to);
}

abbrev pub decreases-loop-from : goal.decreases-loop-from
decreases-loop-from l = length l.classes - l.from
