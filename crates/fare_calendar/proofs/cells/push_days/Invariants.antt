use Rattle.std.proofs.Common.{◌+◌}
use Rattle.fare_calendar.specs.CalendarText.{HasDates}
use Rattle.fare_calendar.specs.Calendars.{IsCell, day_pairs}
use Rattle.fare_law.specs.Lists.{Each, Matched}
use Rattle.fare_calendar.proofs.cells.push_days.Given as goal

-- the cells of the days out so far have been added
abbrev pub invariant-loop-later : goal.invariant-loop-later
invariant-loop-later l = record {
  cells : Matched (IsCell l.asked.book.now l.asked.request.now l.asked.budget) (day_pairs (l.outs.first + l.later) l.asked.spans.backs) l.cells;
  dates : Each HasDates l.cells;
}
