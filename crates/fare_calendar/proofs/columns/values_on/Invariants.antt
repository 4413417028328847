use Rattle.std.proofs.Common.{◌≡◌}
use Rattle.fare_calendar.specs.Columns.{AreNumbered, column}
use Rattle.fare_calendar.proofs.DayPairs.{ValueOn}
use Rattle.fare_calendar.proofs.columns.values_on.Given as goal

-- the values so far, with the steps of the column
abbrev pub invariant-loop-later : goal.invariant-loop-later
invariant-loop-later l = record {
  book : l.steps.case.book.now ≡ l.asked.book.now;
  request : l.steps.case.request.now ≡ column l.asked.request.now l.outs l.back;
  values : AreNumbered (ValueOn l.asked.book.now l.asked.request.now l.asked.budget l.outs l.back) l.later l.values;
}
