use Rattle.std.proofs.Common.{take}
use Rattle.certificate_check.specs.Drawings.{AreDrawings}
use Rattle.certificate_check.specs.Fronts.{AnswerHolds}
use Rattle.certificate_check.specs.Tables.{IsLater}
use Rattle.fare_law.specs.Lists.{Each}
use Rattle.certificate_check.proofs.departing.departures_fail.Given as goal

abbrev pub invariant-loop-i : goal.invariant-loop-i
invariant-loop-i l = record {
  later : IsLater l.fn.steps l.steps;
  drawings : AreDrawings l.steps l.table.rows.now l.drawings.kept.items;
  hold : Each (AnswerHolds l.fn.steps.case.book.now l.fn.steps.case.request.now l.table.rows.now l.answers) (take l.i l.answers);
}
