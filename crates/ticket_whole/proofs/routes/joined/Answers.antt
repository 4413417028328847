use Rattle.std.proofs.Common.{sym, ◌∙◌}
use Rattle.ticket_whole.proofs.Neighbours.{joined_told}
use Rattle.ticket_whole.proofs.routes.joined.Goals as goal

pub returns : goal.returns
returns c = let told = joined_told c.args.flights.now in (λ t. told.0 (sym c.all_join.ensures ∙ t), λ h. c.all_join.ensures ∙ told.1 h)
