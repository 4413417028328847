-- The first move of a first run: for `first_left`.
use Rattle.std.proofs.Common.{◌≡◌, ◌∙◌, ◌⊎◌, ℕ, ◌+◌, ◌≤◌, ◌<◌, List, [], ◌∷◌, ◌++◌, length, map, slice_get, Option, Some, None, IfSome, option_map, refl, sym, ap, subst, inl, inr, ⊎_elim, arith}
use Rattle.std.proofs.lemmas.Bool.{cases_order}
use Rattle.fare_law.specs.Best.{Before}
use Rattle.fare_law.specs.Book.{Book}
use Rattle.fare_law.specs.Codes.{move_code, run_code}
use Rattle.fare_law.specs.Limits.{HasKeys}
use Rattle.fare_law.specs.Lists.{Each, IsIn, KLeast, Less}
use Rattle.fare_law.specs.Parts.{price_of}
use Rattle.fare_law.specs.declared.moves.Move.{Move}
use Rattle.fare_law.specs.declared.requests.Request.{Request}
use Rattle.graph_walk.specs.Walks.{states}
use Rattle.graph_walk.proofs.RowFacts.{row_in}
use Rattle.residual_keys.specs.OneNext.{MoveLeavesOne}
use Rattle.residual_keys.specs.Residuals.{Moves, Run, State, begins, part_with}
use Rattle.residual_keys.specs.Searches.{Drawn, DrawnBefore, IsLeast, Least}
use Rattle.residual_keys.specs.Steps.{IsChosen, left_at}
use Rattle.residual_keys.specs.declared.residual.Chosen.{Chosen}
use Rattle.residual_keys.specs.declared.residual.Next.{Next}
use Rattle.residual_keys.specs.declared.residual.Next.TheVariants.{At, Done}
use Rattle.residual_keys.proofs.OneNext.{run_has_keys}
use Rattle.search_steps.specs.declared.least.LeastMove.{LeastMove}
use Rattle.search_steps.specs.Leads.{level_of, next_of}
use Rattle.search_steps.specs.LeastMoves.{Counts, IsSooner, LeaveLive, RestIs, least_as}
use Rattle.search_steps.proofs.Bridge.{chosen_ends, chosen_on}
use Rattle.pricing_graph.proofs.NodeMoves.{ends_chosen, goes_chosen}
use Rattle.ticket_order.specs.Coding.{Apart, Coded}
use Rattle.law_lemmas.proofs.EachOne.{each_member}
use Rattle.fare_calendar.specs.FirstRuns.{AreClosed, FirstGoes, GoesOn, HasFirst, HasRun, IsFirstRun}

-- What is read of codes and of moves.
pub record FirstLaws (b : Book) (q : Request) : Type 0 where
  pub keys : HasKeys b
  pub one : MoveLeavesOne b q
  pub apart : (m n : Move) → Coded m → Coded n → (move_code m ≡ move_code n) ⊎ Apart (move_code m) (move_code n)
  pub parts : (m n : Move) (us vs : List ℕ) → Coded m → Coded n → move_code m ++ us ≡ move_code n ++ vs → (m ≡ n) × (us ≡ vs)
  pub never : (w : List ℕ) → Less w w → ⊥
  pub first : (v w x y : List ℕ) → Apart v w → Less v w → Less (v ++ x) (w ++ y)
  pub same : (price : ℕ) (w : List ℕ) → Before price w price w → ⊥
  pub further : (p q r : ℕ) (u v w : List ℕ) → Before p u q v → Before q v r w → Before p u r w
  pub total : (p q : ℕ) (v w : List ℕ) → Before p v q w ⊎ (((p ≡ q) × (v ≡ w)) ⊎ Before q w p v)
  pub second : (price p q : ℕ) (u v w : List ℕ) → Before p v q w → Before (price + p) (u ++ v) (price + q) (u ++ w)

-- a move costs and leaves one
chosen_one : (b : Book) (q : Request) → MoveLeavesOne b q → (x : State) (c d : Chosen) → IsChosen b q x c → IsChosen b q x d → c.mv ≡ d.mv → (c.price ≡ d.price) × (c.next ≡ d.next)
chosen_one b q one x c d h k e =
    let r = one x d.mv h.flights k.flights h.piece k.piece h.after k.after h.units k.units (subst (λ (m : Move). Moves b q x m h.flights h.piece h.after h.units) e h.moves) k.moves in
    let left : left_at h.after h.units (part_with x.part (begins c.mv.role) h.piece) ≡ left_at k.after k.units (part_with x.part (begins d.mv.role) k.piece) =
    λ i. left_at (r.2 i) (r.3 i) (part_with x.part (begins (e i).role) (r.1 i)) in
    (h.costs ∙ (λ i. price_of (r.0 i) (r.1 i)) ∙ sym k.costs, h.left ∙ left ∙ sym k.left)

next_one : (x y : Option State) → next_of x ≡ next_of y → x ≡ y
next_one None None e = refl
next_one None (Some y) e = absurd (cc)
next_one (Some x) None e = absurd (cc)
next_one (Some x) (Some y) e = let s : x ≡ y = cc in ap Some s

-- the row of a state
pub row_of : {X : Type 0} (nodes : List (X × Option ℕ)) (x : X) → IsIn x (states nodes) → (bound : Option ℕ) × IsIn (x, bound) nodes
row_of [] x i = absurd i
row_of (node ∷ nodes) x (inl e) = (node.1, inl (ap (λ z. (z, node.1)) e))
row_of (node ∷ nodes) x (inr i) = let r = row_of nodes x i in (r.0, inr r.1)

drawn_same : (e : Drawn) (price : ℕ) (moves : List Move) → e.price ≡ price → e.moves ≡ moves → e ≡ record { price = price; moves = moves }
drawn_same e price moves p m = let same : ◌≡◌ {A = Drawn} (record { price = e.price; moves = e.moves }) (record { price = price; moves = moves }) = λ i. record { price = p i; moves = m i } in same

module _ (b : Book) (q : Request) (nodes : List (State × Option ℕ)) (Bound : State → ℕ → Type 0) (laws : FirstLaws b q) (rows : AreClosed b q nodes)
    (in_rows : (x : State) (rest : ℕ) → Bound x rest → IsIn (x, Some rest) nodes) (by_rows : (x : State) (rest : ℕ) → IsIn (x, Some rest) nodes → Bound x rest) where
  least_of : (x : State) (bound : Option ℕ) → IsIn (x, bound) nodes → Least b q x bound
  least_of x bound i = each_member (λ node. Least b q node.0 node.1) (x, bound) nodes rows.least i

  -- from a state with a run, a bound that is no more
  bound_of : (x : State) (ms : List Move) (price : ℕ) → IsIn x (states nodes) → Run b q x ms price → (rest : ℕ) × IsIn (x, Some rest) nodes × (rest ≤ price)
  bound_of x ms price i run = let r = row_of nodes x i in by r.0 r.1
    where
      by : (bound : Option ℕ) → IsIn (x, bound) nodes → (rest : ℕ) × IsIn (x, Some rest) nodes × (rest ≤ price)
      by None j = absurd (least_of x None j ms price run)
      by (Some rest) j = (rest, j, (least_of x (Some rest) j).1 ms price run)

  -- how a run goes on after its first move
  abbrev RunGoes : Option State → LeastMove State → Drawn → Type 0
  RunGoes None k e = (e.moves ≡ k.mv ∷ []) × (e.price ≡ k.price)
  RunGoes (Some y) k e = (d : Drawn) × Run b q y d.moves d.price × (e.moves ≡ k.mv ∷ d.moves) × (e.price ≡ k.price + d.price)

  -- The first move of a run counts, at no more than the run costs.
  record Begins (x : State) (e : Drawn) : Type 0 where
    pub k : LeastMove State
    pub counts : Counts b q Bound x k
    pub below : k.total ≤ e.price
    pub goes : RunGoes k.next k e

  run_begins : (x : State) (ms : List Move) (price : ℕ) → IsIn x (states nodes) → Run b q x ms price → Begins x (record { price = price; moves = ms })
  run_begins x [] price i run = absurd run
  run_begins x (m ∷ []) price i (fs, p, mv, f) = record {
    k = record { mv = m; price = price_of fs p; next = None; total = price_of fs p + 0 };
    counts = record { move = ends_chosen b q x m fs p mv; rest = 0; bound = refl; total = refl };
    below = omega (arith, f);
    goes = (refl, f);
  }
  run_begins x (m ∷ n ∷ ms) price i (fs, p, at, us, rest, mv, run, f) =
      let y : State = record { at = at; units = us; part = part_with x.part (begins m.role) p } in
      let c = goes_chosen b q x m fs p at us mv in
      let r = bound_of y (n ∷ ms) rest (rows.closed x y m (price_of fs p) i c) run in
      let le = r.2 in record {
        k = record { mv = m; price = price_of fs p; next = Some y; total = price_of fs p + r.0 };
        counts = record { move = c; rest = r.0; bound = by_rows y r.0 r.1; total = refl };
        below = omega (arith, f, le);
        goes = (record { price = rest; moves = n ∷ ms }, run, refl, f);
      }

  begun : (x : State) (e : Drawn) → IsIn x (states nodes) → Run b q x e.moves e.price → Begins x e
  begun x e i run = run_begins x e.moves e.price i run

  -- an earlier word stays earlier with more behind it, and at a higher price
  longer : (p l price : ℕ) (m n : Move) (us vs : List ℕ) → Coded m → Coded n → l ≤ price → Before p (move_code m) l (move_code n) → Before p (move_code m ++ us) price (move_code n ++ vs)
  longer p l price m n us vs c d le (inl lt) = inl (omega (arith, lt, le))
  longer p l price m n us vs c d le (inr (e, less)) = ⊎_elim
      (λ same. absurd (laws.never (move_code n) (subst (λ (w : List ℕ). Less w (move_code n)) same less)))
      (λ apart. ⊎_elim (λ same. inr (e ∙ same, laws.first (move_code m) (move_code n) us vs apart less)) (λ o. ⊎_elim (λ lt. inl (omega (arith, e, lt))) (λ gt. absurd (omega (arith, gt, le))) o) (cases_order l price))
      (laws.apart m n c d)

  module _ (x : State) (here : IsIn x (states nodes)) (m : LeastMove State) (least : KLeast (Counts b q Bound x) IsSooner 1 (m ∷ [])) where
    counted : Counts b q Bound x m
    counted = least.each.0

    -- no move that counts is sooner
    not_sooner : (k : LeastMove State) → Counts b q Bound x k → IsSooner k m → ⊥
    not_sooner k c before =
        let after = least.rest k c (λ i. ⊎_elim (λ e. laws.same m.total (move_code m.mv) (subst (λ (z : LeastMove State). IsSooner z m) e before)) (λ none. absurd none) i) in
        laws.same k.total (move_code k.mv) (laws.further k.total m.total k.total (move_code k.mv) (move_code m.mv) (move_code k.mv) before after.0.0)

    -- a run begins with the least move, or comes later
    compared : (e : Drawn) (us : List ℕ) (g : Begins x e) → Coded m.mv → Run b q x e.moves e.price → Before m.total (move_code m.mv ++ us) e.price (run_code e.moves) ⊎ (m.mv ≡ g.k.mv)
    compared e us g c run = ⊎_elim
        (λ before. inl (later before))
        (λ o. ⊎_elim (λ same. inr (laws.parts m.mv g.k.mv [] [] c coded (ap (λ w. w ++ []) same.1)).0) (λ after. absurd (not_sooner g.k g.counts after)) o)
        (laws.total m.total g.k.total (move_code m.mv) (move_code g.k.mv))
      where
        tail : (next : Option State) → RunGoes next g.k e → (ms : List Move) × (e.moves ≡ g.k.mv ∷ ms)
        tail None h = ([], h.0)
        tail (Some y) h = (h.0.moves, h.2)

        split : (ms : List Move) × (e.moves ≡ g.k.mv ∷ ms)
        split = tail g.k.next g.goes

        coded : Coded g.k.mv
        coded = (subst (λ (ms : List Move). Each Coded ms) split.1 (run_has_keys b q laws.keys x e.moves e.price run)).0

        later : IsSooner m g.k → Before m.total (move_code m.mv ++ us) e.price (run_code e.moves)
        later before =
            subst (λ (ms : List Move). Before m.total (move_code m.mv ++ us) e.price (run_code ms)) (sym split.1) (longer m.total g.k.total e.price m.mv g.k.mv us (run_code split.0) c coded g.below before)

    same_next : (k : LeastMove State) → Counts b q Bound x k → m.mv ≡ k.mv → (k.price ≡ m.price) × (k.next ≡ m.next)
    same_next k c e =
        let r = chosen_one b q laws.one x (record { mv = k.mv; price = k.price; next = next_of k.next }) (record { mv = m.mv; price = m.price; next = next_of m.next }) c.move counted.move (sym e) in
        (r.0, next_one k.next m.next r.1)

    -- the least move ends the journey
    first_ends : m.next ≡ None → HasFirst b q x
    first_ends none = (record { price = m.price; moves = m.mv ∷ [] }, record { run = run; first = first })
      where
        run : Run b q x (m.mv ∷ []) m.price
        run = chosen_ends b q x m.mv m.price m.price (subst (λ (n : Option State). IsChosen b q x (record { mv = m.mv; price = m.price; next = next_of n })) none counted.move) refl

        total : m.total ≡ m.price
        total =
            let z : counted.rest ≡ 0 = subst (λ (n : Option State). RestIs Bound n counted.rest) none counted.bound in
            let t = counted.total in omega (arith, t, z)

        first : (e : Drawn) → Run b q x e.moves e.price → (e ≡ record { price = m.price; moves = m.mv ∷ [] }) ⊎ DrawnBefore (record { price = m.price; moves = m.mv ∷ [] }) e
        first e r =
            let g = begun x e here r in
            ⊎_elim (λ before. inr (subst (λ (n : ℕ). Before n (move_code m.mv ++ []) e.price (run_code e.moves)) total before))
            (λ same.
            let s = same_next g.k g.counts same in
            let goes : RunGoes None g.k e = subst (λ (n : Option State). RunGoes n g.k e) (s.1 ∙ none) g.goes in
            inl (drawn_same e m.price (m.mv ∷ []) (goes.1 ∙ s.0) (goes.0 ∙ ap (λ (v : Move). v ∷ []) (sym same))))
            (compared e [] g (run_has_keys b q laws.keys x (m.mv ∷ []) m.price run).0 r)

    -- it leads on
    first_on : (y : State) → m.next ≡ Some y → HasFirst b q y → HasFirst b q x
    first_on y next (d, first_y) = (record { price = m.price + d.price; moves = m.mv ∷ d.moves }, record { run = run; first = first })
      where
        run : Run b q x (m.mv ∷ d.moves) (m.price + d.price)
        run = chosen_on b q x y m.mv d.moves m.price d.price (m.price + d.price) (subst (λ (n : Option State). IsChosen b q x (record { mv = m.mv; price = m.price; next = next_of n })) next counted.move) first_y.run refl

        bound : IsLeast b q y counted.rest
        bound = least_of y (Some counted.rest) (in_rows y counted.rest (subst (λ (n : Option State). RestIs Bound n counted.rest) next counted.bound))

        costs : counted.rest ≡ d.price
        costs =
            let low = bound.1 d.moves d.price first_y.run in
            let high : d.price ≤ counted.rest = ⊎_elim (λ e. let s = ap (λ z. z.price) e in omega (arith, s)) (λ before. ⊎_elim (λ lt. omega (arith, lt)) (λ eq. let s = eq.0 in omega (arith, s)) before) (first_y.first (record { price = counted.rest; moves = bound.0.0 }) bound.0.1) in
            omega (arith, low, high)

        total : m.total ≡ m.price + d.price
        total = counted.total ∙ ap (λ (n : ℕ). m.price + n) costs

        first : (e : Drawn) → Run b q x e.moves e.price → (e ≡ record { price = m.price + d.price; moves = m.mv ∷ d.moves }) ⊎ DrawnBefore (record { price = m.price + d.price; moves = m.mv ∷ d.moves }) e
        first e r =
            let g = begun x e here r in
            ⊎_elim (λ before. inr (subst (λ (n : ℕ). Before n (move_code m.mv ++ run_code d.moves) e.price (run_code e.moves)) total before))
            (λ same.
            let s = same_next g.k g.counts same in
            let goes : RunGoes (Some y) g.k e = subst (λ (n : Option State). RunGoes n g.k e) (s.1 ∙ next) g.goes in
            let price : e.price ≡ m.price + goes.0.price = goes.3 ∙ ap (λ (n : ℕ). n + goes.0.price) s.0 in
            let moves : e.moves ≡ m.mv ∷ goes.0.moves = goes.2 ∙ ap (λ (v : Move). v ∷ goes.0.moves) (sym same) in
            ⊎_elim (λ is. inl (drawn_same e (m.price + d.price) (m.mv ∷ d.moves) (price ∙ ap (λ (z : Drawn). m.price + z.price) is) (moves ∙ ap (λ (z : Drawn). m.mv ∷ z.moves) is)))
            (λ before. inr (subst (λ (n : ℕ). Before (m.price + d.price) (move_code m.mv ++ run_code d.moves) n (run_code e.moves)) (sym price)
            (subst (λ (ms : List Move). Before (m.price + d.price) (move_code m.mv ++ run_code d.moves) (m.price + goes.0.price) (run_code ms)) (sym moves)
            (laws.second m.price d.price goes.0.price (move_code m.mv) (run_code d.moves) (run_code goes.0.moves) before))))
            (first_y.first goes.0 goes.1))
            (compared e (run_code d.moves) g (run_has_keys b q laws.keys x (m.mv ∷ d.moves) (m.price + d.price) run).0 r)

    first_goes : (next : Option State) → m.next ≡ next → FirstGoes b q nodes x next
    first_goes None e = first_ends e
    first_goes (Some y) e = record {
      run = (counted.rest, in_rows y counted.rest (subst (λ (n : Option State). RestIs Bound n counted.rest) e counted.bound));
      later = rows.raises x y m.mv m.price here (subst (λ (n : Option State). IsChosen b q x (record { mv = m.mv; price = m.price; next = next_of n })) e counted.move);
      first = first_on y e;
    }

  -- there is a least move where there is a run
  pub some_move : {K : Type 0} (state : K → State) (x : State) (ms : List (LeastMove K)) → HasRun nodes x → KLeast (Counts b q Bound x) IsSooner 1 (map (least_as state) ms) → 0 < length ms
  some_move state x [] run least =
      let r = (least_of x (Some run.0) run.1).0 in
      let g = begun x (record { price = run.0; moves = r.0 }) (row_in x (Some run.0) nodes run.1) r.1 in
      let one = (least.rest g.k g.counts (λ i. absurd i)).1 in absurd (omega (arith, one))
  some_move state x (m ∷ ms) run least = omega arith

  pub goes_by_first : {K : Type 0} (state : K → State) (x : State) (ms : List (LeastMove K)) (next : Option K) → HasRun nodes x → option_map (λ m. m.next) (slice_get ms 0) ≡ Some next
      → KLeast (Counts b q Bound x) IsSooner 1 (map (least_as state) ms) → FirstGoes b q nodes x (option_map state next)
  goes_by_first state x [] next run e least = absurd (cc)
  goes_by_first state x (m ∷ []) next run e least = let s : m.next ≡ next = cc in first_goes x (row_in x (Some run.0) nodes run.1) (least_as state m) least (option_map state next) (ap (option_map state) s)
  goes_by_first state x (m ∷ n ∷ ms) next run e least = let few = least.few in absurd (omega (arith, few))

pub left_live : {K : Type 0} (live : K → Type 0) (ms : List (LeastMove K)) (next : Option K) → option_map (λ m. m.next) (slice_get ms 0) ≡ Some next → LeaveLive live ms → IfSome next live
left_live live [] next e l = absurd (cc)
left_live live (m ∷ ms) next e l = let s : m.next ≡ next = cc in subst (λ o. IfSome o live) s l.0
