use Rattle.cheap_moves.proofs.LeadMoves.{closing_least}
use Rattle.cheap_moves.proofs.leads.least_closing.Goals as goal

pub returns : goal.returns
returns g c =
    closing_least c.args.search.now.request.now c.args.search.now.residual.now (g.B.ResidualBounds.bound c.args.search.now.bounds.now) c.args.entry.now c.keeps.ensures.few c.requires.reverse
    c.total_as.result c.total_as-2.result c.lesser.result c.total_as.ensures c.total_as-2.ensures c.lesser.ensures.one c.lesser.ensures.other
