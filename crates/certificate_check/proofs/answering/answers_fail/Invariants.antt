use Rattle.std.proofs.Common.{take, ◌≤◌}
use Rattle.certificate.specs.AnswerCheck.{AnswerRight}
use Rattle.certificate.specs.InOrder.{AllRight}
use Rattle.certificate_check.proofs.answering.answers_fail.Given as goal

abbrev pub invariant-loop-i : goal.invariant-loop-i
invariant-loop-i l = record {
  few : l.i ≤ l.request.best;
  right : AllRight (AnswerRight l.book l.request) (take l.i l.answers);
}
