use Rattle.std.proofs.Common.{arith}
use Rattle.script_text.proofs.OrderLemmas.{is_search, is_wait, no_cut, no_desk, no_order}
use Rattle.script_text.proofs.reading.script_line.Goals as goal

pub returns-in_err-desk : goal.returns-in_err-desk
returns-in_err-desk c = rw c.from_residual.ensures (λ s p. no_cut c.args.counts c.args.line.now s (omega arith) c.in_err-desk.ensures p)

pub returns-in_err-desk-2 : goal.returns-in_err-desk-2
returns-in_err-desk-2 c =
    rw c.from_residual-in_err-desk-2.ensures (λ s p. no_desk c.args.counts c.args.line.now c.in_ok-desk.desk.now c.in_ok-desk.order.now s (omega arith) c.in_ok-desk.ensures c.in_err-desk-2.ensures p)

pub returns-in_err-count : goal.returns-in_err-count
returns-in_err-count c =
    rw c.from_residual-in_err-count.ensures (λ s p. no_order c.args.counts c.args.line.now c.in_ok-desk.desk.now c.in_ok-desk.order.now s (omega arith) c.in_ok-desk.ensures c.in_default.ensures c.in_err-count.ensures p)

pub returns-in-Some : goal.returns-in-Some
returns-in-Some c = is_search c.args.counts c.args.line.now c.in_ok-desk.desk.now c.in_ok-desk.order.now c.in_ok-desk-2.desk c.in-Some.request c.in_ok-desk.ensures c.in_ok-desk-2.ensures c.in-Some.ensures

pub returns : goal.returns
returns c = is_wait c.args.counts c.args.line.now c.in_ok-desk.desk.now c.in_ok-desk.order.now c.in_ok-desk-2.desk c.in_ok-count.count c.in_ok-desk.ensures c.in_ok-desk-2.ensures c.in_ok-count.ensures
