use Rattle.std.proofs.Common.{◌∙◌}
use Rattle.ticket_order.proofs.TicketMoves.{comes_told}
use Rattle.ticket_order.proofs.roles.comes_in.Goals as goal

pub returns : goal.returns
returns c = c.contains.ensures.value ∙ comes_told c.args.unit c.args.labels.now
