use Rattle.std.proofs.Common.{◌≤◌, ◌-◌}
use Rattle.fare_calendar.specs.CalendarText.{HasDates}
use Rattle.fare_calendar.specs.Calendars.{IsCell, day_pairs}
use Rattle.fare_law.specs.Lists.{Each, Matched}
use Rattle.fare_calendar.proofs.cells.cells_of.Given as goal

-- the cells of the days out so far stand there
abbrev pub invariant-loop-first : goal.invariant-loop-first
invariant-loop-first l = record {
  within : l.first ≤ l.asked.spans.outs;
  cells : Matched (IsCell l.asked.book.now l.asked.request.now l.asked.budget) (day_pairs l.first l.asked.spans.backs) l.cells;
  dates : Each HasDates l.cells;
}

abbrev pub decreases-loop-first : goal.decreases-loop-first
decreases-loop-first l = l.asked.spans.outs - l.first
