use Rattle.std.proofs.Common.{◌≡◌, ◌∙◌, ◌≤◌, length, sym, subst, arith}
use Rattle.fare_law.specs.Limits.{IsRequest}
use Rattle.graph_walk.specs.Steps.{rows_of}
use Rattle.graph_walk.specs.Walks.{IsShort}
use Rattle.search_steps.specs.Keys.{state}
use Rattle.search_steps.specs.Leads.{IsRoot, leads_of, level_of}
use Rattle.pricing_graph.specs.Graphs.{AreRows, IsTooLarge, fault_as}
use Rattle.pricing_graph.proofs.Whole.{are_found, are_least, large_as, low_moves, root_of, too_large}
use Rattle.law_lemmas.proofs.LawFacts.{said_of}
use Rattle.pricing_graph.proofs.rows.reached_rows.Goals as goal

pub reached-requires-clause-request : goal.reached-requires-clause-request
reached-requires-clause-request c = subst IsRequest (sym c.key_of.ensures.case.request) c.requires

pub reached-requires-clause-short : goal.reached-requires-clause-short
reached-requires-clause-short c =
    let b = c.case-case.result.book.now in
    let q = c.case-case.result.request.now in
    let request : IsRequest q = subst IsRequest (sym c.case-case.ensures.request) c.requires in
    let some : 1 ≤ length q.slices = let n = request.count in omega (arith, n) in
    let root = state c.key_of.new.self c.in_ok-root.root in
    let is : IsRoot b q root = subst (IsRoot b q) (sym c.in_ok-root.ensures.state) (root_of b q c.root-root.result some c.root-root.ensures.root) in
    let d = c.key_of.new.self.case.book.now in
    let r = c.key_of.new.self.case.request.now in
    let e : b ≡ d = c.case-case.ensures.book ∙ sym c.key_of.ensures.case.book in
    let f : q ≡ r = c.case-case.ensures.request ∙ sym c.key_of.ensures.case.request in
    let six : length q.slices ≤ 6 = let n = request.count in omega (arith, n) in
    said_of (λ b q. IsShort (leads_of b q) level_of root) b d q r e f
    (c.reached_states_are_reached.ensures.short b q root is six (low_moves b q c.limits.ensures c.limits_are_met.ensures.charged c.limits_are_met.ensures.surcharged))

pub returns-in-Ok-clause-rows : goal.returns-in-Ok-clause-rows
returns-in-Ok-clause-rows c =
    let b = c.case-case.result.book.now in
    let q = c.case-case.result.request.now in
    let request : IsRequest q = subst IsRequest (sym c.case-case.ensures.request) c.requires in
    let some : 1 ≤ length q.slices = let n = request.count in omega (arith, n) in
    let root = state c.key_of.new.self c.in_ok-root.root in
    let is : IsRoot b q root = subst (IsRoot b q) (sym c.in_ok-root.ensures.state) (root_of b q c.root-root.result some c.root-root.ensures.root) in
    let d = c.key_of.new.self.case.book.now in
    let r = c.key_of.new.self.case.request.now in
    let e : b ≡ d = c.case-case.ensures.book ∙ sym c.key_of.ensures.case.book in
    let f : q ≡ r = c.case-case.ensures.request ∙ sym c.key_of.ensures.case.request in
    let there = said_of (λ b q. IsRoot b q root) b d q r e f is in
    let nodes = rows_of (state c.reached.new.self) c.in-Ok.rows.entries in
    said_of (λ b q. AreRows b q nodes) d c.args.steps.now.case.book.now r c.args.steps.now.case.request.now c.key_of.ensures.case.book c.key_of.ensures.case.request (
      are_found d r root nodes (λ found h. c.reached_states_are_reached.ensures.reached d r root found there h) c.in-Ok.ensures.reached,
      are_least d r nodes (λ x bound h. c.least_prices_are_least.ensures d r x bound h) c.in-Ok.ensures.least,
    )

pub returns-in-Err-clause-large : goal.returns-in-Err-clause-large
returns-in-Err-clause-large c =
    let b = c.case-case.result.book.now in
    let q = c.case-case.result.request.now in
    let request : IsRequest q = subst IsRequest (sym c.case-case.ensures.request) c.requires in
    let some : 1 ≤ length q.slices = let n = request.count in omega (arith, n) in
    let root = state c.key_of.new.self c.in_ok-root.root in
    let is : IsRoot b q root = subst (IsRoot b q) (sym c.in_ok-root.ensures.state) (root_of b q c.root-root.result some c.root-root.ensures.root) in
    let d = c.key_of.new.self.case.book.now in
    let r = c.key_of.new.self.case.request.now in
    let e : b ≡ d = c.case-case.ensures.book ∙ sym c.key_of.ensures.case.book in
    let f : q ≡ r = c.case-case.ensures.request ∙ sym c.key_of.ensures.case.request in
    let there = said_of (λ b q. IsRoot b q root) b d q r e f is in
    let far = large_as d r c.args.budget c.in-Err.fault (too_large d r root c.args.budget c.in-Err.fault there c.in-Err.ensures.large) in
    subst (IsTooLarge c.args.steps.now.case.book.now c.args.steps.now.case.request.now c.args.budget) (sym c.fault_of.ensures)
    (said_of (λ b q. IsTooLarge b q c.args.budget (fault_as c.args.budget c.in-Err.fault)) d c.args.steps.now.case.book.now r c.args.steps.now.case.request.now c.key_of.ensures.case.book c.key_of.ensures.case.request far)
