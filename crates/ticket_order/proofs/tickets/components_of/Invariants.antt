use Rattle.ticket_order.proofs.TicketParts.{Built}
use Rattle.ticket_order.proofs.tickets.components_of.Given as goal

abbrev pub invariant-loop-i : goal.invariant-loop-i
invariant-loop-i l = Built l.flights l.moves l.units l.i l.components
