use Rattle.std.proofs.Common.{sym, subst, arith}
use Rattle.std.proofs.lemmas.Bool.Decides.{nat_tests}
use Rattle.ticket_order.proofs.MovesRead.{MovesRead, move_lost, move_read, moves_read, none_left, none_read, some_left}
use Rattle.ticket_order.proofs.decoding.moves_of_code.Goals as goal

pub returns-in_err-found : goal.returns-in_err-found
returns-in_err-found c =
    none_read c.args.code.now c.from_residual.result c.from_residual.ensures
    (move_lost c.args.code.now c.loop-rest.moves c.loop-rest.rest.now c.loop-rest.invariant (some_left c.loop-rest.rest.now c.loop-rest-test.ensures) c.in_err-found.ensures.none)

pub loop-rest-preserved : goal.loop-rest-preserved
loop-rest-preserved c =
    subst (λ ms. MovesRead c.args.code.now ms c.in_ok-found.after.now) (sym c.push.ensures)
    (move_read c.args.code.now c.loop-rest.moves c.loop-rest.rest.now c.loop-rest.invariant c.in_ok-found.found c.in_ok-found.after.now (some_left c.loop-rest.rest.now c.loop-rest-test.ensures) (let f = c.if-is_full.ensures.value in let g = c.loop-rest.invariant.few in grind (arith, nat_tests)) c.in_ok-found.ensures.some.0 c.in_ok-found.ensures.some.1)

pub returns : goal.returns
returns c = moves_read c.args.code.now c.loop-rest.moves c.loop-rest.rest.now c.loop-rest.invariant (none_left c.loop-rest.rest.now c.loop-rest-test.ensures)
