use Rattle.std.proofs.Common.{subst, sym, arith}
use Rattle.fare_component.specs.Keys.{asked}
use Rattle.fare_law.specs.declared.market.OfferKey.{OfferKey}
use Rattle.fare_law.specs.Limits.{IsRequest}
use Rattle.graph_walk.specs.Steps.{rows_of}
use Rattle.residual_keys.specs.AskedKeys.{Keys}
use Rattle.residual_keys.proofs.SortedWords.{same_length}
use Rattle.search_steps.specs.Keys.{live, state}
use Rattle.search_steps.proofs.RowsInOrder.{still_each}
use Rattle.pricing_graph.specs.Graphs.{IsGraph}
use Rattle.pricing_graph.proofs.Reordered.{graph_of, within_budget}
use Rattle.law_lemmas.proofs.LawFacts.{said_of}
use Rattle.pricing_graph.proofs.graph.Graph.build.Goals as goal

pub settle-requires-clause-request : goal.settle-requires-clause-request
settle-requires-clause-request g c = subst IsRequest (sym c.in_ok-rows.ensures.case.request) c.requires

pub settle-requires-clause-live : goal.settle-requires-clause-live
settle-requires-clause-live g c = still_each (λ r. live c.reached_rows.new.steps r.0) c.in_ok-rows.rows.entries c.put_in_order.new.rows.entries c.in_ok-put_in_order.ensures.same c.in_ok-rows.ensures.live

pub settle-requires-clause-graph : goal.settle-requires-clause-graph
settle-requires-clause-graph g c =
    let b = c.args.steps.now.case.book.now in
    let q = c.args.steps.now.case.request.now in
    let es = c.put_in_order.new.rows.entries in
    let at = state c.reached_rows.new.steps in
    let rows = c.in_ok-rows.ensures in
    said_of (λ b q. IsGraph b q (rows_of at es)) b _ q _ (sym rows.case.book) (sym rows.case.request)
    (graph_of b q at c.in_ok-rows.rows.entries es c.in_ok-put_in_order.ensures.same rows.rows c.in_ok-put_in_order.ensures.order)

pub returns-clause-live : goal.returns-clause-live
returns-clause-live g c = still_each (λ r. live c.reached_rows.new.steps r.0) c.in_ok-rows.rows.entries c.put_in_order.new.rows.entries c.in_ok-put_in_order.ensures.same c.in_ok-rows.ensures.live

pub returns-clause-graph : goal.returns-clause-graph
returns-clause-graph g c =
    graph_of c.args.steps.now.case.book.now c.args.steps.now.case.request.now (state c.reached_rows.new.steps) c.in_ok-rows.rows.entries c.put_in_order.new.rows.entries c.in_ok-put_in_order.ensures.same c.in_ok-rows.ensures.rows c.in_ok-put_in_order.ensures.order

pub returns-clause-few : goal.returns-clause-few
returns-clause-few g c = omega (arith, same_length c.in_ok-rows.rows.entries c.put_in_order.new.rows.entries c.in_ok-put_in_order.ensures.same, c.in_ok-rows.ensures.few)

pub returns-clause-fits : goal.returns-clause-fits
returns-clause-fits g c =
    within_budget c.args.steps.now.case.book.now c.args.steps.now.case.request.now (state c.reached_rows.new.steps) c.in_ok-rows.rows.entries c.put_in_order.new.rows.entries c.in_ok-put_in_order.ensures.same c.args.budget c.one_size.ensures.more (returns-clause-graph g c) c.in_ok-rows.ensures.few

pub returns-clause-settled : goal.returns-clause-settled
returns-clause-settled g c =
    let case = c.in_ok-rows.ensures.case in
    said_of (λ b q. (key : OfferKey) → Keys b q key → g.O.OfferSource.settled c.settle.new.offers (asked key)) _ _ _ _ case.book case.request c.in_ok-settle.ensures.settled

pub invariant_of-graph : goal.invariant_of-graph
invariant_of-graph g c = record {
  small = let few = c.in_ok-rows.ensures.few in let fits = c.ranges.budget.fits in omega (arith, same_length c.in_ok-rows.rows.entries c.put_in_order.new.rows.entries c.in_ok-put_in_order.ensures.same, few, fits);
}
