use Rattle.std.proofs.Common.{◌≡◌, None, take, true}
use Rattle.component_table.specs.Landed.{IsLandedOf, IsSaidOfRule}
use Rattle.joint_paths.specs.Costs.{GoesDown}
use Rattle.component_table.proofs.landed.least_over.Given as goal

abbrev pub invariant-loop-at : goal.invariant-loop-at
invariant-loop-at l = record {
  said : IsSaidOfRule l.origin l.class l.sought l.charges;
  rule : l.charges.rule ≡ l.initial.charges.rule;
  free : l.sought.rule.now.is_free ≡ true → l.charges ≡ l.initial.charges;
  down : GoesDown l.sought.rule.now l.sought.rungs.now (IsLandedOf l.origin l.class.paths.now l.class.landings.now) (IsLandedOf l.origin l.class.paths.now (take l.at l.class.landings.now)) None l.least;
}
