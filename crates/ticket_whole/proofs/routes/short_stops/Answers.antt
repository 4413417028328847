use Rattle.std.proofs.Common.{sym, ◌∙◌}
use Rattle.ticket_whole.proofs.Neighbours.{short_told}
use Rattle.ticket_whole.proofs.routes.short_stops.Goals as goal

pub returns : goal.returns
returns c = let told = short_told c.args.book.now c.args.flights.now in (λ t. told.0 (sym c.all_short.ensures ∙ t), λ h. c.all_short.ensures ∙ told.1 h)
