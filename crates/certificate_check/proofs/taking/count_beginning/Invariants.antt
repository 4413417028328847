use Rattle.std.proofs.Common.{take, ◌≤◌}
use Rattle.certificate_check.specs.Fronts.{CountsBeginning}
use Rattle.certificate_check.proofs.taking.count_beginning.Given as goal

abbrev pub invariant-loop-answer : goal.invariant-loop-answer
invariant-loop-answer l = record {
  few : l.count ≤ l.answer-index;
  counts : CountsBeginning l.front (take l.answer-index l.answers) l.count;
}
