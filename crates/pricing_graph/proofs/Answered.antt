-- The least moves of a node's residual, with the nodes that they lead to, are the least steps of the node.
use Rattle.std.proofs.Common.{◌≡◌, ◌∙◌, ℕ, ◌<◌, ◌^◌, Bool, List, [], ◌∷◌, map, slice_get, Option, Some, None, option_and_then, option_map, IfSome, refl, sym, ap, subst}
use Rattle.std.specs.List.{position}
use Rattle.std.specs.Map.{keys_of, lookup}
use Rattle.best_steps.specs.declared.steps.Step.{Step}
use Rattle.best_steps.specs.Runs.{Sooner}
use Rattle.fare_law.specs.declared.requests.Request.{Request}
use Rattle.fare_law.specs.Best.{Before}
use Rattle.fare_law.specs.Book.{Book}
use Rattle.fare_law.specs.Codes.{move_code}
use Rattle.fare_law.specs.Lists.{AllDifferent, Each, IsIn, KLeast, Matched}
use Rattle.graph_walk.specs.Steps.{AreLive, KeepsStates, TellsStates, rows_of}
use Rattle.graph_walk.specs.Walks.{states}
use Rattle.residual_keys.specs.Residuals.{State}
use Rattle.search_steps.specs.declared.least.LeastMove.{LeastMove}
use Rattle.search_steps.specs.LeastMoves.{AreLeastMoves, BoundBy, Counts, IsSooner, LeaveLive, RestIs, least_as}
use Rattle.pricing_graph.specs.Givers.{step_as}
use Rattle.pricing_graph.specs.NodeSteps.{BoundIn, HasNodeStep, IsNextNode}
use Rattle.pricing_graph.proofs.Keyed.{found_in, key_of_row, place_of, row_found, rows_stay, still_live}
use Rattle.pricing_graph.proofs.Matching.{matched_least}
use Rattle.pricing_graph.proofs.NodePlaces.{one_node}
use Rattle.graph_walk.proofs.RowFacts.{row_in}
use Rattle.law_lemmas.proofs.Options.{some_same}

module _ {K : Type 0} (b : Book) (q : Request) (live : K → Type 0) (state : K → State) (same : K → K → Bool) (es : List (K × Option ℕ)) (alive : AreLive live es) (tells : TellsStates live state same)
    (different : AllDifferent (states (rows_of state es))) where
  abbrev nodes : List (State × Option ℕ)
  nodes = rows_of state es

  -- bounds by keys are those of the nodes
  abbrev Bound : State → ℕ → Type 0
  Bound = BoundBy live state (λ key. option_and_then (λ bound. bound) (lookup (same key) es))

  bound_in : (x : State) (rest : ℕ) → Bound x rest → BoundIn nodes x rest
  bound_in x rest (key, l, e, f) = subst (λ z. IsIn (z, Some rest) nodes) e (found_in live state same tells es key rest alive l f)

  bound_by : (x : State) (rest : ℕ) → BoundIn nodes x rest → Bound x rest
  bound_by x rest i =
      let r = key_of_row live state same tells es x (Some rest) alive i in
      (r.0, r.1, r.2, ap (λ z. option_and_then (λ bound. bound) z) (row_found live state same tells es r.0 (Some rest) alive different r.3))

  rest_in : (next : Option State) (rest : ℕ) → RestIs Bound next rest → RestIs (BoundIn nodes) next rest
  rest_in None rest h = h
  rest_in (Some y) rest h = bound_in y rest h

  rest_by : (next : Option State) (rest : ℕ) → RestIs (BoundIn nodes) next rest → RestIs Bound next rest
  rest_by None rest h = h
  rest_by (Some y) rest h = bound_by y rest h

  pub counts_in : (x : State) (m : LeastMove State) → Counts b q Bound x m → Counts b q (BoundIn nodes) x m
  counts_in x m h = record { move = h.move; rest = h.rest; bound = rest_in m.next h.rest h.bound; total = h.total }

  counts_by : (x : State) (m : LeastMove State) → Counts b q (BoundIn nodes) x m → Counts b q Bound x m
  counts_by x m h = record { move = h.move; rest = h.rest; bound = rest_by m.next h.rest h.bound; total = h.total }

  -- the step is that of the move
  record IsOf (m : LeastMove State) (s : Step) : Type 0 where
    pub price : s.price ≡ m.price
    pub total : s.total ≡ m.total
    pub word : s.word ≡ move_code m.mv
    pub next : IsNextNode (states nodes) m.next s.next

  module _ (n : ℕ) (x : State) (there : slice_get (states nodes) n ≡ Some x) where
    to : (m : LeastMove State) (s : Step) → IsOf m s → Counts b q Bound x m → HasNodeStep b q nodes n s
    to m s h c = record { state = x; there = there; move = m; counts = counts_in x m c; price = h.price; total = h.total; word = h.word; next = h.next }

    from : (s : Step) → HasNodeStep b q nodes n s → (m : LeastMove State) × Counts b q Bound x m × IsOf m s
    from s h = (h.move, counts_by x h.move (subst (λ z. Counts b q (BoundIn nodes) z h.move) (some_same h.state x (sym h.there ∙ there)) h.counts), record { price = h.price; total = h.total; word = h.word; next = h.next })

    one : (m : LeastMove State) (s t : Step) → IsOf m s → IsOf m t → s ≡ t
    one m s t h k =
        let price = h.price ∙ sym k.price in
        let total = h.total ∙ sym k.total in
        let word = h.word ∙ sym k.word in
        let next = one_node (states nodes) different m.next s.next t.next h.next k.next in
        λ i. record { price = price i; total = total i; word = word i; next = next i }

    below : (m k : LeastMove State) (s t : Step) → IsOf m s → IsOf k t → IsSooner m k → Sooner s t
    below m k s t h g u =
        subst (λ w. Before s.total w t.total t.word) (sym h.word)
        (subst (λ w. Before s.total (move_code m.mv) t.total w) (sym g.word) (subst (λ z. Before z (move_code m.mv) t.total (move_code k.mv)) (sym h.total) (subst (λ z. Before m.total (move_code m.mv) z (move_code k.mv)) (sym g.total) u)))

    module _ (live' : K → Type 0) (state' : K → State) (keeps : KeepsStates live live' state state') (tells' : TellsStates live' state' same) where
      abbrev node : K → Option ℕ
      node key = position (same key) (keys_of es)

      next_node : (next : Option K) (rest : ℕ) → IfSome next live' → RestIs Bound (option_map state' next) rest → IsNextNode (states nodes) (option_map state' next) (option_and_then node next)
      next_node None rest l h = tt
      next_node (Some key) rest l h = by (node key) p.1
        where
          there' : IsIn (state' key) (states (rows_of state' es))
          there' = subst (λ z. IsIn (state' key) (states z)) (sym (rows_stay live live' state state' es keeps alive)) (row_in (state' key) (Some rest) nodes (bound_in (state' key) rest h))

          p : (n : ℕ) × (position (same key) (keys_of es) ≡ Some n) × (slice_get (states (rows_of state' es)) n ≡ Some (state' key))
          p = place_of live' state' same tells' es key (still_live live live' state state' es keeps alive) l there'

          by : (found : Option ℕ) → found ≡ Some p.0 → IsNextNode (states nodes) (Some (state' key)) found
          by None e = absurd (cc)
          by (Some m) e =
              let same : m ≡ p.0 = some_same m p.0 e in
              subst (λ z. slice_get (states z) m ≡ Some (state' key)) (rows_stay live live' state state' es keeps alive) (subst (λ i. slice_get (states (rows_of state' es)) i ≡ Some (state' key)) (sym same) p.2)

      matched : (ms : List (LeastMove K)) → LeaveLive live' ms → Each (Counts b q Bound x) (map (least_as state') ms) → Matched IsOf (map (least_as state') ms) (map (step_as node) ms)
      matched [] l h = tt
      matched (m ∷ ms) l h = (record { price = refl; total = refl; word = refl; next = next_node m.next h.0.rest l.0 h.0.bound }, matched ms l.1 h.1)

      pub least_steps : (wanted : ℕ) (ms : List (LeastMove K)) → LeaveLive live' ms → AreLeastMoves b q Bound x wanted (map (least_as state') ms) → KLeast (HasNodeStep b q nodes n) Sooner wanted (map (step_as node) ms)
      least_steps wanted ms l h =
          matched_least IsOf (Counts b q Bound x) (HasNodeStep b q nodes n) IsSooner Sooner to from one below wanted (map (least_as state') ms) (map (step_as node) ms) (matched ms l h.each) h

-- the totals of the moves
pub totals_small : {K : Type 0} (state : K → State) (Has : LeastMove State → Type 0) → ((m : LeastMove State) → Has m → m.total < 2 ^ 64) → (ms : List (LeastMove K)) → Each Has (map (least_as state) ms) → Each (λ m. m.total < 2 ^ 64) ms
totals_small state Has small [] h = tt
totals_small state Has small (m ∷ ms) h = (small (least_as state m) h.0, totals_small state Has small ms h.1)
