-- The node of the root.
use Rattle.std.proofs.Common.{◌≡◌, ◌≤◌, ◌∙◌, ℕ, Bool, List, [], None, length, slice_get, Option, Some, sym, subst, arith}
use Rattle.std.specs.List.{position}
use Rattle.std.specs.Map.{keys_of}
use Rattle.fare_law.specs.declared.requests.Request.{Request}
use Rattle.fare_law.specs.Book.{Book}
use Rattle.fare_law.specs.Lists.{IsIn}
use Rattle.fare_law.specs.Limits.{IsRequest}
use Rattle.flight_paths.specs.declared.positions.Position.{Position}
use Rattle.flight_paths.specs.Positions.{before_slice}
use Rattle.graph_walk.specs.Steps.{AreLive, KeepsStates, TellsStates, rows_of}
use Rattle.graph_walk.specs.Walks.{states}
use Rattle.graph_walk.specs.Walks.Reached.{here}
use Rattle.residual_keys.specs.Residuals.{State, no_part}
use Rattle.residual_table.specs.declared.key.ResidualKey.{ResidualKey}
use Rattle.search_steps.specs.declared.steps.SearchSteps.{SearchSteps}
use Rattle.search_steps.specs.Cases.{IsSameCase}
use Rattle.search_steps.specs.Keys.{live, state}
use Rattle.search_steps.specs.Leads.{IsRoot}
use Rattle.search_steps.proofs.Bridge.{reached_is}
use Rattle.pricing_graph.specs.Graphs.{IsGraph}
use Rattle.pricing_graph.specs.NodeSteps.{IsRootNode}
use Rattle.pricing_graph.proofs.Keyed.{place_of, rows_stay, still_live}
use Rattle.pricing_graph.proofs.Whole.{root_of}

-- a graph of the same book, request and nodes
pub graph_stays : (b c : Book) (q r : Request) (xs ys : List (State × Option ℕ)) → c ≡ b → r ≡ q → ys ≡ xs → IsGraph b q xs → IsGraph c r ys
graph_stays b c q r xs ys e f g h = subst (λ z. IsGraph z r ys) (sym e) (subst (λ z. IsGraph b z ys) (sym f) (subst (λ z. IsGraph b q z) (sym g) h))

root_found : {K : Type 0} (b : Book) (q : Request) (live : K → Type 0) (state : K → State) (same : K → K → Bool) → TellsStates live state same → (es : List (K × Option ℕ)) (key : K) → IsRoot b q (state key) → live key → AreLive live es
    → IsGraph b q (rows_of state es) → (n : ℕ) × (position (same key) (keys_of es) ≡ Some n) × IsRootNode b q (rows_of state es) n
root_found b q live state same tells es key is l h graph =
    let there : IsIn (state key) (states (rows_of state es)) = (graph.needed.are (state key)).1 ((reached_is b q (state key) (state key) is).0 here) in
    let p = place_of live state same tells es key h l there in
    (p.0, p.1, (state key, p.2, is))

-- the node of a key of the root, after steps that keep what keys stand for
pub root_there : (old new : SearchSteps) (b : Book) (q : Request) (same : ResidualKey → ResidualKey → Bool) (es : List (ResidualKey × Option ℕ)) (key : ResidualKey) (root : State) → b ≡ old.case.book.now → q ≡ old.case.request.now → IsSameCase old new
    → KeepsStates (live old) (live new) (state old) (state new) → IsRequest old.case.request.now → AreLive (live old) es → IsGraph old.case.book.now old.case.request.now (rows_of (state old) es)
    → ((at : Position) → before_slice b 0 (slice_get q.slices 0) None ≡ Some at → root ≡ record { at = at; units = []; part = no_part }) → live new key → state new key ≡ root → TellsStates (live new) (state new) same
    → (n : ℕ) × (position (same key) (keys_of es) ≡ Some n) × IsRootNode new.case.book.now new.case.request.now (rows_of (state new) es) n
root_there old new b q same es key root eb eq case keeps request alive graph begins l is tells =
    let book : b ≡ new.case.book.now = eb ∙ sym case.book in
    let asked : q ≡ new.case.request.now = eq ∙ sym case.request in
    let some : 1 ≤ length q.slices = let n = (subst IsRequest (sym eq) request).count in omega (arith, n) in
    let first : IsRoot b q (state new key) = subst (λ x. IsRoot b q x) (sym is) (root_of b q root some begins) in
    root_found new.case.book.now new.case.request.now (live new) (state new) same tells es key (subst (λ z. IsRoot new.case.book.now z (state new key)) asked (subst (λ z. IsRoot z q (state new key)) book first)) l
    (still_live (live old) (live new) (state old) (state new) es keeps alive)
    (graph_stays old.case.book.now new.case.book.now old.case.request.now new.case.request.now (rows_of (state old) es) (rows_of (state new) es) case.book case.request (rows_stay (live old) (live new) (state old) (state new) es keeps alive) graph)
