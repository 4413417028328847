use Rattle.std.proofs.Common.{◌<◌}
use Rattle.component_table.specs.Landed.{AreAlike}
use Rattle.joint_paths.proofs.Ranged.{UpTo}
use Rattle.component_table.proofs.landed.past_class.Given as goal

abbrev pub invariant-loop-at : goal.invariant-loop-at
invariant-loop-at l = record {
  past : l.from < l.at;
  alike : UpTo (AreAlike l.paths) l.landings l.from l.at;
}
