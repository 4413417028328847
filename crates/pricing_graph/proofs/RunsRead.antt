-- Runs of steps from the root's node, read as moves, are runs from the root; and what runs cost.
use Rattle.std.proofs.Common.{◌≡◌, ◌∙◌, ℕ, ◌*◌, ◌≤◌, ◌<◌, ◌^◌, List, [], ◌∷◌, length, map, Option, Some, None, refl, sym, subst, arith}
use Rattle.best_k.specs.declared.lattice.Derivation.{Derivation}
use Rattle.best_k.specs.Derivations.{Under}
use Rattle.best_steps.specs.Runs.{IsRun, LeastRuns}
use Rattle.fare_law.specs.declared.moves.Move.{Move}
use Rattle.fare_law.specs.declared.requests.Request.{Request}
use Rattle.fare_law.specs.Best.{Before}
use Rattle.fare_law.specs.Book.{Book}
use Rattle.fare_law.specs.Codes.{run_code}
use Rattle.fare_law.specs.Lists.{Each, Matched}
use Rattle.fare_law.specs.Parts.{price_of}
use Rattle.graph_walk.specs.Walks.{states}
use Rattle.residual_keys.specs.Residuals.{Run, RunFromRoot, State, begins, no_part, part_with}
use Rattle.residual_keys.specs.Searches.{BestRuns, Drawn, DrawnBefore, IsDrawn}
use Rattle.residual_keys.specs.Short.{RunIsShort}
use Rattle.residual_keys.specs.Written.{RunsHaveCodes}
use Rattle.search_steps.specs.declared.least.LeastMove.{LeastMove}
use Rattle.search_steps.specs.Leads.{IsRoot, MovesCostLess, next_of}
use Rattle.search_steps.specs.LeastMoves.{Counts, RestIs}
use Rattle.ticket_order.specs.Coding.{Coded, IsCodeOf, IsMove}
use Rattle.pricing_graph.specs.declared.drawn.DrawnRun.{DrawnRun}
use Rattle.pricing_graph.specs.DrawnRuns.{HasMoves, IsReadAs, run_of_drawn}
use Rattle.pricing_graph.specs.NodeSteps.{BoundIn, HasNodeStep, IsRootNode}
use Rattle.pricing_graph.proofs.Matching.{matched_least}
use Rattle.pricing_graph.proofs.NodeMoves.{Known, ends_chosen, goes_chosen}
use Rattle.pricing_graph.proofs.StepRuns.{run_steps, steps_run}
use Rattle.law_lemmas.proofs.EachOne.{each_weaker}

-- ---- what runs cost

run_cheap : (b : Book) (q : Request) (ms : List Move) (x : State) (price : ℕ) → MovesCostLess b q 4294967296 → Run b q x ms price → price ≤ 4294967296 * length ms
run_cheap b q [] x price low run = absurd run
run_cheap b q (m ∷ []) x price low (fs, p, mv, e) = let l = low x (record { mv = m; price = price_of fs p; next = next_of None }) (ends_chosen b q x m fs p mv) in omega (arith, l, e)
run_cheap b q (m ∷ n ∷ ms) x price low (fs, p, at, us, rest, mv, run, e) =
    let y : State = record { at = at; units = us; part = part_with x.part (begins m.role) p } in
    let l = low x (record { mv = m; price = price_of fs p; next = next_of (Some y) }) (goes_chosen b q x m fs p at us mv) in
    let r = run_cheap b q (n ∷ ms) y rest low run in
    omega (arith, l, r, e)

-- the total of a move that counts
pub total_small : (b : Book) (q : Request) (nodes : List (State × Option ℕ)) (x : State) (m : LeastMove State) → length q.slices ≤ 6 → MovesCostLess b q 4294967296 → RunIsShort b q → Known b q (states nodes) (BoundIn nodes)
    → Counts b q (BoundIn nodes) x m → m.total < 2 ^ 64
total_small b q nodes x m six low short known h =
    let l = low x (record { mv = m.mv; price = m.price; next = next_of m.next }) h.move in
    let r = rest_low m.next h.rest h.bound in
    let t = h.total in
    omega (arith, l, r, t)
  where
    rest_low : (next : Option State) (rest : ℕ) → RestIs (BoundIn nodes) next rest → rest ≤ 77309411328
    rest_low None rest z = omega (arith, z)
    rest_low (Some y) rest z =
        let least = known.sound y rest z in
        let cheap = run_cheap b q least.0.0 y rest low least.0.1 in
        let few = short y least.0.0 rest least.0.1 in
        let one = few.0 in
        let two = few.1 in
        omega (arith, cheap, one, two, six)

-- ---- runs of steps, read as moves

root_same : (b : Book) (q : Request) (x y : State) → IsRoot b q x → IsRoot b q y → x ≡ y
root_same b q x y h k =
    let units = h.0 ∙ sym k.0 in
    let part = h.1 ∙ sym k.1 in
    let at : x.at ≡ y.at = let e = h.2 in let f = k.2 in cc in
    λ i. record { at = at i; units = units i; part = part i }

module _ (b : Book) (q : Request) (nodes : List (State × Option ℕ)) (root : ℕ) (known : Known b q (states nodes) (BoundIn nodes)) (is : IsRootNode b q nodes root) (codes : RunsHaveCodes b q)
    (same : (xs ys : List Move) → Each Coded xs → Each Coded ys → run_code xs ≡ run_code ys → xs ≡ ys) where
  abbrev Has : Derivation → Type 0
  Has d = IsRun (HasNodeStep b q nodes) root d

  abbrev Reads : Derivation → Drawn → Type 0
  Reads d run = (run.price ≡ d.price) × IsCodeOf d.word run.moves

  -- the run of a derivation
  run_of : (d : Derivation) → Has d → (ms : List Move) × RunFromRoot b q ms d.price × (d.word ≡ run_code ms)
  run_of d (steps, leads, price, word) =
      let r = steps_run b q (states nodes) (BoundIn nodes) known root is.0 steps is.1 leads in
      let start = root_same b q is.0 (record { at = is.0.at; units = []; part = no_part }) is.2 (refl, refl, is.2.2) in
      (r.0, (is.0.at, is.2.2, subst (λ z. Run b q z r.0 d.price) start (subst (λ p. Run b q is.0 r.0 p) (sym price) r.1)), word ∙ r.2)

  pub has_moves : (d : Derivation) → Has d → HasMoves d
  has_moves d h = let r = run_of d h in (r.0, subst (λ w. IsCodeOf w r.0) (sym r.2) (codes r.0 d.price r.1))

  -- one word is the code of one list of moves
  moves_one : (word : List ℕ) (ms ns : List Move) → IsCodeOf word ms → IsCodeOf word ns → ms ≡ ns
  moves_one word ms ns h k = same ms ns (each_weaker IsMove Coded (λ m i. i.coded) ms h.each) (each_weaker IsMove Coded (λ m i. i.coded) ns k.each) (sym h.code_is ∙ k.code_is)

  to : (d : Derivation) (run : Drawn) → Reads d run → Has d → IsDrawn b q run
  to d run r h =
      let f = run_of d h in
      let e = moves_one d.word f.0 run.moves (subst (λ w. IsCodeOf w f.0) (sym f.2) (codes f.0 d.price f.1)) r.1 in
      subst (λ p. RunFromRoot b q run.moves p) (sym r.0) (subst (λ ms. RunFromRoot b q ms d.price) e f.1)

  from : (run : Drawn) → IsDrawn b q run → (d : Derivation) × Has d × Reads d run
  from run (at, before, h) =
      let start = root_same b q (record { at = at; units = []; part = no_part }) is.0 (refl, refl, before) is.2 in
      let s = run_steps b q (states nodes) (BoundIn nodes) known root is.0 run.moves run.price is.1 (subst (λ z. Run b q z run.moves run.price) start h) in
      (record { price = run.price; word = run_code run.moves }, (s.0, s.1, s.2, s.3), (refl, codes run.moves run.price (at, before, h)))

  one : (d : Derivation) (r s : Drawn) → Reads d r → Reads d s → r ≡ s
  one d r s h k =
      let price = h.0 ∙ sym k.0 in
      let moves = moves_one d.word r.moves s.moves h.1 k.1 in
      λ i. record { price = price i; moves = moves i }

  below : (d e : Derivation) (r s : Drawn) → Reads d r → Reads e s → Under d e → DrawnBefore r s
  below d e r s h k u =
      subst (λ w. Before r.price w s.price (run_code s.moves)) h.1.code_is
      (subst (λ w. Before r.price d.word s.price w) k.1.code_is (subst (λ p. Before p d.word s.price e.word) (sym h.0) (subst (λ p. Before d.price d.word p e.word) (sym k.0) u)))

  as_drawn : (ds : List Derivation) (runs : List DrawnRun) → Matched IsReadAs ds runs → Matched Reads ds (map run_of_drawn runs)
  as_drawn [] [] m = tt
  as_drawn [] (r ∷ runs) m = absurd m
  as_drawn (d ∷ ds) [] m = absurd m
  as_drawn (d ∷ ds) (r ∷ runs) m = ((m.0.price, m.0.moves), as_drawn ds runs m.1)

  pub best_of_least : (k : ℕ) (ds : List Derivation) (runs : List DrawnRun) → LeastRuns (HasNodeStep b q nodes) root k ds → Matched IsReadAs ds runs → BestRuns b q k (map run_of_drawn runs)
  best_of_least k ds runs least m = matched_least Reads Has (IsDrawn b q) Under DrawnBefore to from one below k ds (map run_of_drawn runs) (as_drawn ds runs m) least
