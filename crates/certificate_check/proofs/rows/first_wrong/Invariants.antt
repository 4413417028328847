use Rattle.std.proofs.Common.{take}
use Rattle.certificate.specs.InOrder.{AllRight}
use Rattle.certificate.specs.NumberedRows.{rows_of}
use Rattle.certificate.specs.RowCheck.{RowRight}
use Rattle.certificate_check.proofs.rows.first_wrong.Given as goal

abbrev pub invariant-loop-i : goal.invariant-loop-i
invariant-loop-i l = AllRight (RowRight l.judge.book.now l.judge.request.now) (rows_of l.judge.parts.now (take l.i l.rows))
