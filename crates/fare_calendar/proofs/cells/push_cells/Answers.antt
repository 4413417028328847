use Rattle.std.proofs.Common.{◌+◌, sym, subst}
use Rattle.fare_calendar.specs.CalendarText.{HasDates}
use Rattle.fare_calendar.specs.Calendars.{IsCell}
use Rattle.fare_law.specs.Lists.{Each, Matched}
use Rattle.fare_calendar.proofs.DayPairs.{no_back, one_back}
use Rattle.law_lemmas.proofs.EachOne.{each_more}
use Rattle.fare_calendar.proofs.cells.push_cells.Goals as goal

pub loop-back-init : goal.loop-back-init
loop-back-init c = record {
  cells = λ pairs m. no_back (IsCell c.args.asked.now.book.now c.args.asked.now.request.now c.args.asked.now.budget) pairs (c.args.outs.first + c.args.later) c.args.cells.now m;
  dates = λ h. h;
}

pub loop-back-preserved : goal.loop-back-preserved
loop-back-preserved c =
    let R = IsCell c.args.asked.now.book.now c.args.asked.now.request.now c.args.asked.now.budget in
    record {
      cells = λ pairs m. subst (Matched R _) (sym c.in_ok-push.ensures.items) (one_back R pairs (c.args.outs.first + c.args.later) c.loop-back.back c.loop-back.cells _ (c.loop-back.invariant.cells pairs m) c.cell_on-cell.ensures.cell);
      dates = λ h. subst (Each HasDates) (sym c.in_ok-push.ensures.items) (each_more HasDates c.loop-back.cells _ (c.loop-back.invariant.dates h) c.cell_on-cell.ensures.dates);
    }
