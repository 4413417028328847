use Rattle.std.proofs.Common.{◌+◌, Some, sym, ap, subst, arith}
use Rattle.ticket_order.proofs.TicketParts.{Built, built_next, built_lost, built_all}
use Rattle.ticket_order.proofs.tickets.components_of.Goals as goal

pub returns-in_err-component-clause-only : goal.returns-in_err-component-clause-only
returns-in_err-component-clause-only c = λ cs h u.
    absurd (built_lost c.args.flights.now c.args.moves.now c.args.units.now c.loop-i.i c.loop-i.components c.loop-i.invariant c.index-moves-i.result c.loop-i-test.true (omega arith) c.index-moves-i.is c.in_err-component.ensures.only cs h u)

pub loop-i-preserved : goal.loop-i-preserved
loop-i-preserved c =
    subst (Built c.args.flights.now c.args.moves.now c.args.units.now (c.loop-i.i + 1)) (sym c.push.ensures)
    (built_next c.args.flights.now c.args.moves.now c.args.units.now c.loop-i.i c.loop-i.components c.loop-i.invariant c.index-moves-i.result c.loop-i-test.true (omega arith) c.index-moves-i.is
    c.in_ok-component.component c.in_ok-component.ensures.some.0 c.in_ok-component.ensures.some.1 c.in_ok-component.ensures.only)

pub returns-clause-only : goal.returns-clause-only
returns-clause-only c = λ cs h u. ap Some (built_all c.args.flights.now c.args.moves.now c.args.units.now c.loop-i.i c.loop-i.components c.loop-i.invariant c.loop-i-test.false cs h u)
