use Rattle.cheap_moves.proofs.LeadMoves.{forward_least}
use Rattle.cheap_moves.proofs.leads.least_forward.Goals as goal

pub returns : goal.returns
returns g c =
    forward_least c.args.search.now.request.now c.args.search.now.residual.now (g.B.ResidualBounds.bound c.args.search.now.bounds.now) c.args.entry.now c.keeps.ensures.few c.requires.forward
    c.total_as.result c.total_as-2.result c.total_as-3.result c.total_as-4.result c.lesser-begun.result c.lesser-gone_on.result c.lesser.result
    c.total_as.ensures c.total_as-2.ensures c.total_as-3.ensures c.total_as-4.ensures
    c.lesser-begun.ensures.one c.lesser-begun.ensures.other c.lesser-gone_on.ensures.one c.lesser-gone_on.ensures.other c.lesser.ensures.one c.lesser.ensures.other
