use Rattle.std.proofs.Common.{◌≡◌, ℕ, ◌+◌, sym, subst, arith}
use Rattle.fare_calendar.specs.CalendarText.{HasDates}
use Rattle.fare_calendar.specs.Calendars.{IsCell, day_pairs}
use Rattle.fare_law.specs.Lists.{Each, Matched}
use Rattle.fare_calendar.proofs.CellRequests.{few_outs}
use Rattle.fare_calendar.proofs.DayPairs.{no_out}
use Rattle.fare_calendar.proofs.cells.cells_of.Goals as goal

pub loop-first-init : goal.loop-first-init
loop-first-init c =
    let a = c.args.asked.now in
    record {
      within = omega arith;
      cells = subst (Matched (IsCell a.book.now a.request.now a.budget) (day_pairs 0 a.spans.backs)) (sym c.new-cells.ensures) (no_out _ a.spans.backs);
      dates = subst (Each HasDates) (sym c.new-cells.ensures) tt;
    }

pub push_days-requires-clause-cells : goal.push_days-requires-clause-cells
push_days-requires-clause-cells c =
    let a = c.args.asked.now in
    subst (λ (n : ℕ). Matched (IsCell a.book.now a.request.now a.budget) (day_pairs n a.spans.backs) c.loop-first.cells) (sym c.days_from-outs.ensures.first) c.loop-first.invariant.cells

pub overflow_add-first : goal.overflow_add-first
overflow_add-first c =
    let within = c.days_from-outs.ensures.days.within in
    let first = c.days_from-outs.ensures.first in
    let most = few_outs c.args.asked.now.request.now c.args.asked.now.spans c.requires in
    omega (arith, within, first, most)

pub loop-first-preserved : goal.loop-first-preserved
loop-first-preserved c =
    let a = c.args.asked.now in
    let within = c.days_from-outs.ensures.days.within in
    let first = c.days_from-outs.ensures.first in
    record {
      within = omega (arith, within, first);
      cells = subst (λ (n : ℕ). Matched (IsCell a.book.now a.request.now a.budget) (day_pairs (n + c.days_from-outs.result.count) a.spans.backs) c.push_days.new.cells) first c.in_ok-push_days.ensures.cells;
      dates = c.in_ok-push_days.ensures.dates;
    }

pub loop-first-smaller : goal.loop-first-smaller
loop-first-smaller c =
    let some = c.days_from-outs.ensures.days.some in
    let within = c.days_from-outs.ensures.days.within in
    let first = c.days_from-outs.ensures.first in
    let test = c.loop-first-test.true in
    omega (arith, some, within, first, test)

pub returns-clause-cells : goal.returns-clause-cells
returns-clause-cells c =
    let a = c.args.asked.now in
    let within = c.loop-first.invariant.within in
    let test = c.loop-first-test.false in
    let all : c.loop-first.first ≡ a.spans.outs = omega (arith, within, test) in
    subst (λ (n : ℕ). Matched (IsCell a.book.now a.request.now a.budget) (day_pairs n a.spans.backs) c.loop-first.cells) all c.loop-first.invariant.cells
