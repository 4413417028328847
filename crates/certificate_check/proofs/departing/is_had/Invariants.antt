use Rattle.std.proofs.Common.{take}
use Rattle.certificate_check.specs.Fronts.{IsHad}
use Rattle.certificate_check.proofs.departing.is_had.Given as goal

abbrev pub invariant-loop-answer : goal.invariant-loop-answer
invariant-loop-answer l = IsHad (take l.answer-index l.answers) l.front → ⊥
