use Rattle.ticket_order.proofs.LawfulTickets.{lawful_ticket}
use Rattle.ticket_order.proofs.laws.lawful_tickets.Goals as goal

pub returns : goal.returns
returns c = lawful_ticket
