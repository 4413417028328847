use Rattle.std.proofs.Common.{subst}
use Rattle.asked_keys.specs.Asking.{HasKeysSettled, IsAsked}
use Rattle.fare_law.specs.Lists.{Each}
use Rattle.graph_walk.specs.Steps.{rows_of}
use Rattle.graph_walk.specs.Walks.{states}
use Rattle.search_steps.specs.Keys.{state}
use Rattle.law_lemmas.proofs.EachOne.{each_in}
use Rattle.law_lemmas.proofs.LawFacts.{said_of}
use Rattle.law_lemmas.proofs.Options.{on_ok}
use Rattle.pricing_graph.proofs.graph.Graph.settle.Goals as goal

pub returns-clause-settled : goal.returns-clause-settled
returns-clause-settled g c =
    let steps = c.args.steps.now in
    let b = steps.case.book.now in
    let q = steps.case.request.now in
    let xs = states (rows_of (state steps) c.args.self.now.rows.entries) in
    let residuals = c.in_ok-residuals.residuals in
    let Settled = g.O.OfferSource.settled c.settle_keys.new.offers in
    on_ok c.settle_keys.result _ _ (λ settled key k.
    let one = each_in (IsAsked residuals) xs k.0 c.in_ok-residuals.ensures ((c.requires.graph.needed.are k.0).1 k.1) in
    let all = said_of (λ b q. Each (HasKeysSettled b q Settled) residuals) _ b _ q c.case-case.ensures.book c.case-case.ensures.request (subst (Each (HasKeysSettled c.case-case.result.book.now c.case-case.result.request.now Settled)) c.as_slice.ensures settled) in
    each_in (HasKeysSettled b q Settled) residuals one.0 all one.1 key (one.2 b q key k.2)) c.settle_keys.ensures.settled
