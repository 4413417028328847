use Rattle.std.proofs.Common.{◌≤◌, length, ap, arith}
use Rattle.fare_verdict.proofs.Stands.{reached_all, reached_more, reached_none}
use Rattle.fare_verdict.proofs.judging.push_of.Goals as goal

pub loop-at-init : goal.loop-at-init
loop-at-init c = reached_none c.args.book.now c.args.request.now c.args.ticket.now c.args.asked.demand c.args.found.now c.push_whole.new.found c.in_ok-push_whole.ensures

pub loop-at-preserved : goal.loop-at-preserved
loop-at-preserved c =
    reached_more c.args.book.now c.args.request.now c.args.ticket.now c.args.asked.demand c.loop-at.at c.args.found.now c.loop-at.found c.push_at.new.found c.loop-at.invariant c.in_ok-push_at.ensures

pub returns : goal.returns
returns c =
    let items = ap length c.as_slice-at-end.ensures.items in
    let test = c.loop-at-test.false in
    let all : length c.args.ticket.now.components ≤ c.loop-at.at = omega (arith, items, test) in
    reached_all c.args.book.now c.args.request.now c.args.ticket.now c.args.asked.demand c.loop-at.at c.args.found.now c.loop-at.found all c.loop-at.invariant
