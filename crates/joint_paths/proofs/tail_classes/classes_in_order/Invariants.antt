use Rattle.std.proofs.Common.{ℕ, ◌-◌, ◌<◌, ◌≤◌, length}
use Rattle.fare_law.specs.Lists.{Each, IsIn}
use Rattle.joint_paths.specs.declared.tail_classes.TailClass.{TailClass}
use Rattle.joint_paths.specs.Ordered.{IsClassInOrder}
use Rattle.joint_paths.proofs.tail_classes.classes_in_order.Given as goal

abbrev pub invariant-loop-from : goal.invariant-loop-from
invariant-loop-from l = record {
  within : l.from ≤ length l.ordered;
  each : Each (IsClassInOrder l.ordered) l.classes.items;
  all : (n : ℕ) → n < l.from → (c : TailClass) × IsIn c l.classes.items × (c.from ≤ n) × (n < c.to);
}

abbrev pub decreases-loop-from : goal.decreases-loop-from
decreases-loop-from l = length l.ordered - l.from
