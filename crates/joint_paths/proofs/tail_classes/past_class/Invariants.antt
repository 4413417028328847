use Rattle.std.proofs.Common.{◌<◌}
use Rattle.joint_paths.specs.Ordered.{IsBeside}
use Rattle.joint_paths.proofs.Ranged.{UpTo}
use Rattle.joint_paths.proofs.tail_classes.past_class.Given as goal

abbrev pub invariant-loop-at : goal.invariant-loop-at
invariant-loop-at l = record {
  past : l.from < l.at;
  beside : UpTo IsBeside l.ordered l.from l.at;
}
