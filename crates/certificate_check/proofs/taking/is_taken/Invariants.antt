use Rattle.std.proofs.Common.{take}
use Rattle.certificate_check.specs.Fronts.{IsTaken}
use Rattle.certificate_check.proofs.taking.is_taken.Given as goal

abbrev pub invariant-loop-answer : goal.invariant-loop-answer
invariant-loop-answer l = IsTaken (take l.answer-index l.answers) l.front l.mv → ⊥
