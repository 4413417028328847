use Rattle.std.proofs.Common.{◌≡◌, ℕ, ◌+◌, sym, subst, arith}
use Rattle.fare_calendar.specs.Calendars.{IsCell, day_pairs}
use Rattle.fare_calendar.specs.Columns.{AreColumns}
use Rattle.fare_law.specs.Lists.{Matched}
use Rattle.fare_calendar.proofs.DayPairs.{one_out}
use Rattle.fare_calendar.proofs.cells.push_days.Goals as goal

pub loop-later-init : goal.loop-later-init
loop-later-init c =
    let a = c.args.asked.now in
    let none : c.args.outs.first ≡ c.args.outs.first + 0 = omega arith in
    record {
      cells = subst (λ (n : ℕ). Matched (IsCell a.book.now a.request.now a.budget) (day_pairs n a.spans.backs) c.args.cells.now) none c.requires.cells;
      dates = c.requires.dates;
    }

pub push_cells-requires-clause-columns : goal.push_cells-requires-clause-columns
push_cells-requires-clause-columns c =
    let a = c.args.asked.now in
    subst (AreColumns a.book.now a.request.now a.budget c.args.outs a.spans.backs) (sym c.as_slice.ensures) c.in_ok-columns.ensures

pub loop-later-preserved : goal.loop-later-preserved
loop-later-preserved c =
    let a = c.args.asked.now in
    let R = IsCell a.book.now a.request.now a.budget in
    let out = c.args.outs.first + c.loop-later.later in
    let next : out + 1 ≡ c.args.outs.first + (c.loop-later.later + 1) = omega arith in
    record {
      cells = subst (λ (n : ℕ). Matched R (day_pairs n a.spans.backs) c.push_cells.new.cells) next (one_out R a.spans.backs out c.push_cells.new.cells (c.in_ok-push_cells.ensures.cells (day_pairs out a.spans.backs) c.loop-later.invariant.cells));
      dates = c.in_ok-push_cells.ensures.dates c.loop-later.invariant.dates;
    }
