use Rattle.std.proofs.Common.{subst}
use Rattle.cheap_moves.proofs.LeadMoves.{lead_had, lead_not}
use Rattle.cheap_moves.specs.Leads.{LeastOf}
use Rattle.law_lemmas.proofs.Options.{on_ok}
use Rattle.cheap_moves.proofs.leads.add_entry.Goals as goal

pub returns-in-Some : goal.returns-in-Some
returns-in-Some g c =
    let q = c.args.search.now.request.now in
    let r = c.args.search.now.residual.now in
    let bound = g.B.ResidualBounds.bound c.args.search.now.bounds.now in
    on_ok c.push.result _ _
    (lead_had q r bound c.args.entry.now c.args.leads.now c.push.new.self c.in-Some.total (subst (LeastOf q r bound c.args.entry.now) c.in-Some.is c.least_total.ensures)) c.push.ensures.items

pub returns-in-None : goal.returns-in-None
returns-in-None g c =
    let q = c.args.search.now.request.now in
    let r = c.args.search.now.residual.now in
    let bound = g.B.ResidualBounds.bound c.args.search.now.bounds.now in
    lead_not q r bound c.args.entry.now c.args.leads.now (subst (LeastOf q r bound c.args.entry.now) c.in-None.is c.least_total.ensures)
