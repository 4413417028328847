use Rattle.fare_calendar.specs.Columns.{AreColumns}
use Rattle.fare_calendar.proofs.columns.columns_of.Given as goal

abbrev pub invariant-loop-back : goal.invariant-loop-back
invariant-loop-back l = AreColumns l.asked.book.now l.asked.request.now l.asked.budget l.outs l.back l.columns
