use Rattle.std.proofs.Common.{◌≡◌}
use Rattle.joint_paths.proofs.RuledFacts.{AreChargedSoFar}
use Rattle.joint_paths.proofs.ruled_heads.RuledHeads.charge_heads.Given as goal

abbrev pub invariant-loop-head : goal.invariant-loop-head
invariant-loop-head l = record {
  of : l.self.of ≡ l.initial.self.of;
  charged : AreChargedSoFar l.bucket l.rule l.initial.self.charges.items l.self.charges.items l.classes l.least l.head-index;
}
