use Rattle.joint_paths.proofs.FitFacts.{ListsHeads}
use Rattle.joint_paths.proofs.fitting.Fitting.add_heads.Given as goal

abbrev pub invariant-loop-head : goal.invariant-loop-head
invariant-loop-head l = ListsHeads l.bucket l.tail l.head l.initial.self l.self
