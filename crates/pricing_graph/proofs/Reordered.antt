-- Rows in order are the nodes of the graph.
use Rattle.std.proofs.Common.{◌≡◌, ◌↔◌, ℕ, suc, ◌≤◌, ◌<◌, List, [], ◌∷◌, length, zero, Option, Some, option_map, slice_get, refl, ap, arith}
use Rattle.std.specs.List.Sorted.{IsPermutation}
use Rattle.fare_law.specs.declared.requests.Request.{Request}
use Rattle.fare_law.specs.Book.{Book}
use Rattle.fare_law.specs.Lists.{EachPair}
use Rattle.graph_walk.specs.Steps.{rows_of}
use Rattle.graph_walk.specs.Walks.{states}
use Rattle.residual_keys.specs.ResidualOrder.{StateBefore}
use Rattle.residual_keys.specs.Residuals.{State}
use Rattle.residual_keys.specs.Searches.{IsSize, Least, ReachesMoreThan}
use Rattle.residual_keys.proofs.SortedWords.{same_length}
use Rattle.search_steps.proofs.RowsInOrder.{from_nodes, same_states, still_each, to_nodes}
use Rattle.pricing_graph.specs.Graphs.{AreRows, IsGraph}

module _ {K X : Type 0} (f : K → X) where
  pub ordered_states : (R : X → X → Type 0) (es : List (K × Option ℕ)) → EachPair (λ d e. R (f d.0) (f e.0)) es → EachPair R (states (rows_of f es))
  ordered_states R [] h = tt
  ordered_states R (e ∷ []) h = tt
  ordered_states R (d ∷ e ∷ es) h = (h.0, ordered_states R (e ∷ es) h.1)

  pub as_many : (es : List (K × Option ℕ)) → length (states (rows_of f es)) ≡ length es
  as_many [] = refl
  as_many (e ∷ es) = ap suc (as_many es)

module _ {K : Type 0} (b : Book) (q : Request) (f : K → State) (old new : List (K × Option ℕ)) (p : IsPermutation old new) where
  pub graph_of : AreRows b q (rows_of f old) → EachPair (λ d e. StateBefore (f d.0) (f e.0)) new → IsGraph b q (rows_of f new)
  graph_of rows order = record {
    needed = record {
      in_order = ordered_states f StateBefore new order;
      are = λ x. let s = same_states f x old new p in (λ i. (rows.0.are x).0 (s.1 i), λ r. s.0 ((rows.0.are x).1 r));
    };
    least = to_nodes f (λ node. Least b q node.0 node.1) new (still_each (λ e. Least b q (f e.0) e.1) old new p (from_nodes f (λ node. Least b q node.0 node.1) old rows.1));
  }

  pub within_budget : (budget : ℕ) → ((b : Book) (q : Request) (size n : ℕ) → IsSize b q size → ReachesMoreThan n b q ↔ (n < size)) → IsGraph b q (rows_of f new) → length old ≤ budget → ReachesMoreThan budget b q → ⊥
  within_budget budget sizes graph few more =
      let lt = (sizes b q (length (states (rows_of f new))) budget (states (rows_of f new), graph.needed, refl)).0 more in
      omega (arith, lt, few, as_many f new, same_length old new p)

-- the node at a place is its key's
pub node_at : {K X : Type 0} (f : K → X) (es : List (K × Option ℕ)) (n : ℕ) (k : K) → option_map (λ r. r.0) (slice_get es n) ≡ Some k → option_map (λ x. x.0) (slice_get (rows_of f es) n) ≡ Some (f k)
node_at f [] n k e = absurd (cc)
node_at f (r ∷ es) zero k e = let same : r.0 ≡ k = cc in ap (λ z. Some (f z)) same
node_at f (r ∷ es) (suc n) k e = node_at f es n k e
