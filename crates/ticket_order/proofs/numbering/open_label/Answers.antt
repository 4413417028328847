use Rattle.std.proofs.Common.{◌≡◌, false, true, get_or, subst, arith}
use Rattle.ticket_order.proofs.OpenLabels.{found_here, found_nowhere}
use Rattle.ticket_order.proofs.numbering.open_label.Goals as goal

pub returns-then-left-eq0-clause-only : goal.returns-then-left-eq0-clause-only
returns-then-left-eq0-clause-only c = λ l t e.
    let here : get_or c.args.opened.now c.loop-label.label false ≡ true = subst (λ n. get_or c.args.opened.now n false ≡ true) c.from.ensures c.if-opened-from.true in
    found_here c.args.opened.now c.loop-label.label c.loop-label.left c.args.slot l (omega arith) here c.if-left-eq0.true c.loop-label.invariant t e

pub returns-clause-only : goal.returns-clause-only
returns-clause-only c = λ l t e. found_nowhere c.args.opened.now c.loop-label.label c.loop-label.left c.args.slot l (omega arith) c.loop-label.invariant t e
