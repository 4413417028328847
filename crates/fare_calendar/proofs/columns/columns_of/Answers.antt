use Rattle.std.proofs.Common.{◌+◌, sym, subst}
use Rattle.fare_calendar.specs.Columns.{AreColumns, IsColumn}
use Rattle.fare_calendar.proofs.DayPairs.{none_numbered, one_numbered}
use Rattle.fare_calendar.proofs.columns.columns_of.Goals as goal

pub loop-back-init : goal.loop-back-init
loop-back-init c =
    let a = c.args.asked.now in subst (AreColumns a.book.now a.request.now a.budget c.args.outs 0) (sym c.new-columns.ensures) (none_numbered (IsColumn a.book.now a.request.now a.budget c.args.outs))

pub loop-back-preserved : goal.loop-back-preserved
loop-back-preserved c =
    let a = c.args.asked.now in
    let Is = IsColumn a.book.now a.request.now a.budget c.args.outs in
    subst (AreColumns a.book.now a.request.now a.budget c.args.outs (c.loop-back.back + 1)) (sym c.in_ok-push.ensures.items) (one_numbered Is c.loop-back.back c.loop-back.columns c.in_ok-column.column c.loop-back.invariant c.in_ok-column.ensures)
