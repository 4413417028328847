use Rattle.std.proofs.Common.{◌<◌}
use Rattle.component_table.proofs.HeadFacts.{IsBeside}
use Rattle.joint_paths.proofs.Ranged.{UpTo}
use Rattle.component_table.proofs.crossing.past_bucket.Given as goal

abbrev pub invariant-loop-at : goal.invariant-loop-at
invariant-loop-at l = record {
  past : l.from < l.at;
  beside : UpTo IsBeside l.heads l.from l.at;
}
