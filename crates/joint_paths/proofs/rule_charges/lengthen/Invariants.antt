use Rattle.std.proofs.Common.{◌≡◌, ◌-◌, ◌≤◌, vec_len}
use Rattle.fare_law.specs.Lists.{Each}
use Rattle.joint_paths.specs.declared.rule_charges.Charged.TheVariants.{NotAsked}
use Rattle.joint_paths.proofs.rule_charges.lengthen.Given as goal

abbrev pub invariant-loop-of : goal.invariant-loop-of
invariant-loop-of l = record {
  none : Each (λ c. c ≡ NotAsked) l.of.items;
  within : vec_len l.of ≤ l.count;
}

abbrev pub decreases-loop-of : goal.decreases-loop-of
decreases-loop-of l = l.count - vec_len l.of
