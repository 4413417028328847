use Rattle.std.proofs.Common.{sym, subst}
use Rattle.std.proofs.lemmas.List.{take_all}
use Rattle.fare_book.specs.Taking.{StopsAt}
use Rattle.fare_book.proofs.TakingLemmas.{TakenSo, stops_told, taken_more, taken_none}
use Rattle.fare_book.proofs.taking.take_actions.Goals as goal

pub loop-i-init : goal.loop-i-init
loop-i-init c = taken_none c.args.draft.now

pub loop-i-preserved : goal.loop-i-preserved
loop-i-preserved c = taken_more c.args.draft.now c.loop-i.draft c.act.new.draft c.args.actions.now c.loop-i.i c.index-actions-i.result c.index-actions-i.result c.loop-i-test.true c.index-actions-i.is c.in-Ok.ensures c.loop-i.invariant

pub returns-in-Err-clause-refused : goal.returns-in-Err-clause-refused
returns-in-Err-clause-refused c = λ b start.
    subst (StopsAt b c.args.actions.now) (sym c.fault_at.ensures)
    (stops_told c.args.draft.now c.loop-i.draft c.act.new.draft c.args.actions.now c.loop-i.i c.index-actions-i.result c.index-actions-i.result c.in-Err.stop c.loop-i-test.true c.index-actions-i.is c.in-Err.ensures c.loop-i.invariant b start)

pub returns-clause-taken : goal.returns-clause-taken
returns-clause-taken c = subst (λ xs. TakenSo c.args.draft.now xs c.loop-i.draft) (take_all c.loop-i.i c.args.actions.now c.loop-i-test.false) c.loop-i.invariant
