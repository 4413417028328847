use Rattle.std.proofs.Common.{◌++◌, ◌+◌, ℕ, List}
use Rattle.fare_calendar.specs.CalendarText.{HasDates}
use Rattle.fare_calendar.specs.Calendars.{IsCell, with_backs}
use Rattle.fare_law.specs.Lists.{Each, Matched}
use Rattle.fare_calendar.proofs.cells.push_cells.Given as goal

-- the cells of the days back so far have been added
abbrev pub invariant-loop-back : goal.invariant-loop-back
invariant-loop-back l = record {
  cells : (pairs : List (ℕ × ℕ)) → Matched (IsCell l.asked.book.now l.asked.request.now l.asked.budget) pairs l.initial.cells → Matched (IsCell l.asked.book.now l.asked.request.now l.asked.budget) (pairs ++ with_backs l.back (l.outs.first + l.later)) l.cells;
  dates : Each HasDates l.initial.cells → Each HasDates l.cells;
}
