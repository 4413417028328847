use Rattle.std.proofs.Common.{sym, subst, arith}
use Rattle.cheap_moves.specs.Leads.{AreLeads}
use Rattle.cheap_moves.proofs.LeadMoves.{leads_again}
use Rattle.cheap_moves.proofs.LeastWithin.{enough}
use Rattle.cheap_moves.proofs.listing.least_moves.Goals as goal

pub returns-then-len-wanted-clause-least : goal.returns-then-len-wanted-clause-least
returns-then-len-wanted-clause-least g c =
    enough c.args.search.now.book.now c.args.search.now.request.now c.args.search.now.residual.now (g.B.ResidualBounds.bound c.args.search.now.bounds.now) c.in_ok-limit.limit c.args.wanted c.in_ok-least.least c.in_ok-least.ensures.least (omega (arith, c.if-len-wanted.true, c.len.ensures))

pub least_within-requires-clause-leads : goal.least_within-requires-clause-leads
least_within-requires-clause-leads g c =
    let b = c.args.search.now.book.now in
    let q = c.args.search.now.request.now in
    let r = c.args.search.now.residual.now in
    let bound = g.B.ResidualBounds.bound c.args.search.now.bounds.now in
    subst (AreLeads b q r bound) (sym c.as_slice.ensures) (leads_again b q r bound c.args.leads.now c.in_ok-leads.leads c.in_ok-leads.ensures c.requires.leads)

pub least_within-requires-in-Some-clause-leads : goal.least_within-requires-in-Some-clause-leads
least_within-requires-in-Some-clause-leads g c =
    let b = c.args.search.now.book.now in
    let q = c.args.search.now.request.now in
    let r = c.args.search.now.residual.now in
    let bound = g.B.ResidualBounds.bound c.args.search.now.bounds.now in
    subst (AreLeads b q r bound) (sym c.as_slice-in-Some.ensures) (leads_again b q r bound c.args.leads.now c.in_ok-leads.leads c.in_ok-leads.ensures c.requires.leads)
