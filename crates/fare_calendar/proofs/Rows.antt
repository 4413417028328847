-- Rows of keys: what is found by a key, and what stays where keys stand for the same.
use Rattle.std.proofs.Common.{◌≡◌, ◌∙◌, ◌≤◌, ℕ, Bool, List, Option, Some, None, option_and_then, refl, sym, ap, subst, ⊎_elim, arith}
use Rattle.std.specs.Map.{lookup}
use Rattle.fare_law.specs.Book.{Book}
use Rattle.fare_law.specs.Limits.{IsRequest}
use Rattle.fare_law.specs.Lists.{AllDifferent, IsIn}
use Rattle.fare_law.specs.declared.moves.Move.{Move}
use Rattle.fare_law.specs.declared.requests.Request.{Request}
use Rattle.graph_walk.specs.Steps.{AreLive, KeepsStates, TellsStates, rows_of}
use Rattle.graph_walk.specs.Walks.{AreLeast, AreReached, Costs, IsShort, LeastBy, Reached, states}
use Rattle.graph_walk.specs.Walks.Reached.{further}
use Rattle.graph_walk.proofs.RowFacts.{found, live_rows, missing, same_rows}
use Rattle.pricing_graph.proofs.Keyed.{found_in, key_of_row, row_found}
use Rattle.pricing_graph.proofs.Whole.{are_least}
use Rattle.residual_keys.specs.Residuals.{Run, State}
use Rattle.residual_keys.specs.Searches.{IsLeast, Least}
use Rattle.residual_table.specs.declared.key.ResidualKey.{ResidualKey}
use Rattle.search_steps.specs.Cases.{IsSameCase}
use Rattle.search_steps.specs.Keys.{live, state}
use Rattle.search_steps.specs.Leads.{leads_of, level_of}
use Rattle.search_steps.specs.LeastMoves.{BoundBy}
use Rattle.search_steps.specs.declared.steps.SearchSteps.{SearchSteps}
use Rattle.law_lemmas.proofs.EachOne.{each_member}
use Rattle.fare_calendar.specs.FirstRuns.{AreClosed, HasFirst, IsFirstPrice, TellRuns}

module _ {K : Type 0} (live : K → Type 0) (state : K → State) (same : K → K → Bool) (tells : TellsStates live state same) (es : List (K × Option ℕ)) (alive : AreLive live es) where
  abbrev Bound : State → ℕ → Type 0
  Bound = BoundBy live state (λ key. option_and_then (λ bound. bound) (lookup (same key) es))

  -- bounds by keys are those of the rows
  pub in_rows : (x : State) (rest : ℕ) → Bound x rest → IsIn (x, Some rest) (rows_of state es)
  in_rows x rest (key, l, e, f) = subst (λ (z : State). IsIn (z, Some rest) (rows_of state es)) e (found_in live state same tells es key rest alive l f)

  pub by_rows : AllDifferent (states (rows_of state es)) → (x : State) (rest : ℕ) → IsIn (x, Some rest) (rows_of state es) → Bound x rest
  by_rows different x rest i =
      let r = key_of_row live state same tells es x (Some rest) alive i in
      (r.0, r.1, r.2, ap (λ z. option_and_then (λ bound. bound) z) (row_found live state same tells es r.0 (Some rest) alive different r.3))

  -- the row of a key has the bound that is found by it
  pub row_by : (key : K) (bound : Option ℕ) → live key → IsIn (state key) (states (rows_of state es)) → bound ≡ option_and_then (λ bound. bound) (lookup (same key) es) → IsIn (state key, bound) (rows_of state es)
  row_by key bound l i e = by (lookup (same key) es) refl e
    where
      by : (o : Option (Option ℕ)) → lookup (same key) es ≡ o → bound ≡ option_and_then (λ bound. bound) o → IsIn (state key, bound) (rows_of state es)
      by None f g = absurd (missing same live state tells key es l alive f i)
      by (Some rest) f g = subst (λ (n : Option ℕ). IsIn (state key, n) (rows_of state es)) (sym g) (found same live state tells key rest es l alive f)

-- the rows of a walk
pub closed_rows : (b : Book) (q : Request) (root : State) (nodes : List (State × Option ℕ)) → AreReached (leads_of b q) root (states nodes) → AreLeast (leads_of b q) nodes → IsShort (leads_of b q) level_of root
    → ((x : State) (bound : Option ℕ) → LeastBy (Costs (leads_of b q) (Some x)) bound → Least b q x bound) → AreClosed b q nodes
closed_rows b q root nodes reached least short is = record {
  once = reached.once;
  least = are_least b q nodes is least;
  closed = λ x y m price i c. (reached.are y).1 (further x y price ((reached.are x).0 i) (m, c));
  raises = λ x y m price i c. short.raises x y price ((reached.are x).0 i) (m, c);
  low = λ x i. short.few x ((reached.are x).0 i);
}

-- rows tell as much to later steps
pub still_tell : (s t : SearchSteps) (rows : List (ResidualKey × Option ℕ)) → IsSameCase s t → KeepsStates (live s) (live t) (state s) (state t) → TellRuns s rows → TellRuns t rows
still_tell s t rows case keeps h = record {
  request = subst IsRequest (sym case.request) h.request;
  alive = live_rows (live s) (live t) (state s) (state t) keeps rows h.alive;
  closed = subst (λ (nodes : List (State × Option ℕ)). AreClosed t.case.book.now t.case.request.now nodes) (sym (same_rows (live s) (live t) (state s) (state t) keeps rows h.alive))
      (subst (λ (b : Book). AreClosed b t.case.request.now (rows_of (state s) rows)) (sym case.book) (subst (λ (q : Request). AreClosed s.case.book.now q (rows_of (state s) rows)) (sym case.request) h.closed));
}

-- the price of a row is that of a first run, and a row without one is of a state without a run
pub first_costs : (b : Book) (q : Request) (nodes : List (State × Option ℕ)) (x : State) (price : ℕ) → AreClosed b q nodes → IsIn (x, Some price) nodes → HasFirst b q x → IsFirstPrice b q x (Some price)
first_costs b q nodes x price rows i (d, is) =
    let least : IsLeast b q x price = each_member (λ node. Least b q node.0 node.1) (x, Some price) nodes rows.least i in
    let low = least.1 d.moves d.price is.run in
    let high : d.price ≤ price = ⊎_elim (λ e. let s = ap (λ z. z.price) e in omega (arith, s)) (λ before. ⊎_elim (λ lt. omega (arith, lt)) (λ eq. let s = eq.0 in omega (arith, s)) before) (is.first (record { price = price; moves = least.0.0 }) least.0.1) in
    (d, is, omega (arith, low, high))

pub no_run : (b : Book) (q : Request) (nodes : List (State × Option ℕ)) (x : State) → AreClosed b q nodes → IsIn (x, None) nodes → (ms : List Move) (price : ℕ) → Run b q x ms price → ⊥
no_run b q nodes x rows i = each_member (λ node. Least b q node.0 node.1) (x, None) nodes rows.least i

pub no_run_by : (b : Book) (q : Request) (nodes : List (State × Option ℕ)) (x : State) (bound : Option ℕ) → AreClosed b q nodes → IsIn (x, bound) nodes → ((price : ℕ) → bound ≡ Some price → ⊥) → (ms : List Move) (price : ℕ) → Run b q x ms price → ⊥
no_run_by b q nodes x None rows i none = no_run b q nodes x rows i
no_run_by b q nodes x (Some price) rows i none = absurd (none price refl)
