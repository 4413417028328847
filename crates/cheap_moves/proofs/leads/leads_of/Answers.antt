use Rattle.std.proofs.Common.{subst}
use Rattle.std.proofs.lemmas.List.{take_all}
use Rattle.cheap_moves.specs.Leads.{HasEntry}
use Rattle.cheap_moves.proofs.LeadMoves.{leads_are, leads_more}
use Rattle.fare_law.specs.Lists.{IsIn}
use Rattle.outlines.specs.declared.outline.Entry.{Entry}
use Rattle.cheap_moves.proofs.leads.leads_of.Goals as goal

pub loop-entry-preserved : goal.loop-entry-preserved
loop-entry-preserved g c =
    leads_more c.args.search.now.request.now c.args.search.now.residual.now (g.B.ResidualBounds.bound c.args.search.now.bounds.now) c.args.table.now c.loop-entry.entry-index _ c.entry-item.result c.loop-entry.leads c.add_entry.new.leads
    c.loop-entry-test.true c.entry-item.is c.loop-entry.invariant c.in_ok-add_entry.ensures

pub returns : goal.returns
returns g c =
    let q = c.args.search.now.request.now in
    let r = c.args.search.now.residual.now in
    let bound = g.B.ResidualBounds.bound c.args.search.now.bounds.now in
    leads_are c.args.search.now.book.now q r bound c.args.table.now c.loop-entry.leads c.requires.table
    (subst (λ es. (e : Entry) → IsIn e es → HasEntry q r bound c.loop-entry.leads e) (take_all c.loop-entry.entry-index c.args.table.now c.loop-entry-test.false) c.loop-entry.invariant)
