use Rattle.std.proofs.Common.{◌≡◌, [], None}
use Rattle.joint_paths.proofs.FitFacts.{AreTurned}
use Rattle.joint_paths.proofs.fitting.Fitting.turn_to.Given as goal

abbrev pub invariant-loop-tail : goal.invariant-loop-tail
invariant-loop-tail l = record {
  heads : l.self.heads.items ≡ [];
  turned : AreTurned l.bucket l.tails l.tail-index l.self.tails.items l.self.whole;
  charges : l.self.charges.rule ≡ None;
}
