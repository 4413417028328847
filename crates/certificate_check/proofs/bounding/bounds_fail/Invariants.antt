use Rattle.std.proofs.Common.{take}
use Rattle.certificate.specs.BoundCheck.{BoundRight}
use Rattle.certificate.specs.InOrder.{AllRight}
use Rattle.certificate_check.specs.Tables.{IsLater}
use Rattle.certificate_check.proofs.bounding.bounds_fail.Given as goal

abbrev pub invariant-loop-i : goal.invariant-loop-i
invariant-loop-i l = record {
  later : IsLater l.initial.steps l.steps;
  right : AllRight (BoundRight l.initial.steps.case.book.now l.initial.steps.case.request.now l.table.rows.now) (take l.i l.table.rows.now);
}
