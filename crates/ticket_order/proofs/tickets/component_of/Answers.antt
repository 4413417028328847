use Rattle.std.proofs.Common.{Some, refl, sym, ap, subst}
use Rattle.ticket_order.proofs.TicketParts.{component_one, component_none}
use Rattle.ticket_order.specs.Tickets.{LeadFrom}
use Rattle.ticket_order.proofs.tickets.component_of.Goals as goal

pub returns-in_err-begin-clause-only : goal.returns-in_err-begin-clause-only
returns-in_err-begin-clause-only c = λ d is unit. absurd (component_none c.args.flights.now c.args.m.now d (λ b e h. c.in_err-begin.ensures.only b e (subst (λ ns. LeadFrom c.args.flights.now ns b e) (sym c.as_slice.ensures.items) h)) is)

pub returns-clause-only : goal.returns-clause-only
returns-clause-only c = λ d is unit.
    ap Some (component_one c.args.flights.now c.args.m.now c.args.unit c.in_ok-begin.begin c.in_ok-begin.end _ d (λ b e h. c.in_ok-begin.ensures.only b e (subst (λ ns. LeadFrom c.args.flights.now ns b e) (sym c.as_slice.ensures.items) h))
    c.copied.ensures refl c.copied-2.ensures refl c.market_of.ensures is unit)
