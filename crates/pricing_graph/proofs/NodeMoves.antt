-- What is known of the nodes of a graph, and the moves of their steps.
use Rattle.std.proofs.Common.{◌≡◌, ◌⊎◌, ◌∙◌, ℕ, ◌+◌, ◌≤◌, ◌<◌, List, [], ◌∷◌, length, slice_get, Option, Some, None, refl, sym, subst, arith}
use Rattle.best_steps.specs.declared.steps.Step.{Step}
use Rattle.fare_law.specs.declared.flights.Flight.{Flight}
use Rattle.fare_law.specs.declared.moves.Move.{Move}
use Rattle.fare_law.specs.declared.requests.Request.{Request}
use Rattle.fare_law.specs.declared.tickets.Piece.{Piece}
use Rattle.fare_law.specs.Book.{Book}
use Rattle.fare_law.specs.Lists.{AllDifferent, IsIn}
use Rattle.fare_law.specs.Codes.{move_code}
use Rattle.fare_law.specs.Parts.{price_of}
use Rattle.flight_paths.specs.declared.positions.Position.{Position}
use Rattle.open_unit.specs.declared.units.OpenUnit.{OpenUnit}
use Rattle.residual_keys.specs.declared.residual.Chosen.{Chosen}
use Rattle.residual_keys.specs.declared.residual.Next.TheVariants.{At, Done}
use Rattle.residual_keys.specs.Residuals.{Moves, Run, State, begins, part_with}
use Rattle.residual_keys.specs.Searches.{IsLeast, Least}
use Rattle.residual_keys.specs.Steps.{IsChosen}
use Rattle.search_steps.specs.Leads.{level_of, next_of}
use Rattle.search_steps.specs.LeastMoves.{RestIs}
use Rattle.search_steps.proofs.Bridge.{chosen_ends, chosen_on}
use Rattle.ticket_order.specs.Coding.{Apart, Coded}
use Rattle.pricing_graph.specs.NodeSteps.{HasStep, IsNextNode}
use Rattle.law_lemmas.proofs.Members.{got_in, in_got}
use Rattle.law_lemmas.proofs.Options.{some_same}

-- What is known of a graph whose nodes are at the places of these states, with these bounds.
pub record Known (b : Book) (q : Request) (xs : List State) (Bound : State → ℕ → Type 0) : Type 0 where
  pub once : AllDifferent xs
  pub closed : (x y : State) (mv : Move) (price : ℕ) → IsIn x xs → IsChosen b q x (record { mv = mv; price = price; next = At y }) → IsIn y xs
  pub decided : (x : State) → IsIn x xs → (bound : Option ℕ) × Least b q x bound
  pub sound : (x : State) (rest : ℕ) → Bound x rest → IsLeast b q x rest
  pub whole : (x : State) (rest : ℕ) → IsIn x xs → IsLeast b q x rest → Bound x rest
  pub low : (x : State) → IsIn x xs → level_of x ≤ 17
  pub raises : (x y : State) (mv : Move) (price : ℕ) → IsIn x xs → IsChosen b q x (record { mv = mv; price = price; next = At y }) → level_of x < level_of y
  pub cheap : (x : State) (c : Chosen) → IsChosen b q x c → c.price < 4294967296
  pub coded : (x : State) (c : Chosen) → IsChosen b q x c → Coded c.mv
  pub few : (x : State) (c : Chosen) → IsChosen b q x c → length c.mv.flights ≤ 4
  pub one : (x : State) (c d : Chosen) → IsChosen b q x c → IsChosen b q x d → c.mv ≡ d.mv → c ≡ d
  pub apart : (m n : Move) → Coded m → Coded n → (move_code m ≡ move_code n) ⊎ Apart (move_code m) (move_code n)
  pub tells : (m n : Move) → Coded m → Coded n → move_code m ≡ move_code n → m ≡ n

-- a move that ends the journey, and one that leads on, as they are chosen
pub ends_chosen : (b : Book) (q : Request) (x : State) (m : Move) (fs : List Flight) (p : Piece) → Moves b q x m fs p None [] → IsChosen b q x (record { mv = m; price = price_of fs p; next = Done })
ends_chosen b q x m fs p h = record { flights = fs; piece = p; after = None; units = []; moves = h; costs = refl; left = refl }

pub goes_chosen : (b : Book) (q : Request) (x : State) (m : Move) (fs : List Flight) (p : Piece) (at : Position) (us : List OpenUnit) → Moves b q x m fs p (Some at) us
    → IsChosen b q x (record { mv = m; price = price_of fs p; next = At (record { at = at; units = us; part = part_with x.part (begins m.role) p }) })
goes_chosen b q x m fs p at us h = record { flights = fs; piece = p; after = Some at; units = us; moves = h; costs = refl; left = refl }

pub least_one : (b : Book) (q : Request) (x : State) (r s : ℕ) → IsLeast b q x r → IsLeast b q x s → r ≡ s
least_one b q x r s h k = let a = h.1 k.0.0 s k.0.1 in let c = k.1 h.0.0 r h.0.1 in omega (arith, a, c)

module _ (b : Book) (q : Request) (xs : List State) (Bound : State → ℕ → Type 0) (known : Known b q xs Bound) where
  abbrev Has : ℕ → Step → Type 0
  Has = HasStep b q Bound xs

  -- from a state with a run, a bound that is no more
  pub bound_of_run : (x : State) (ms : List Move) (price : ℕ) → IsIn x xs → Run b q x ms price → (rest : ℕ) × Bound x rest × (rest ≤ price)
  bound_of_run x ms price i run = by (known.decided x i).0 (known.decided x i).1
    where
      by : (bound : Option ℕ) → Least b q x bound → (rest : ℕ) × Bound x rest × (rest ≤ price)
      by None h = absurd (h ms price run)
      by (Some rest) h = (rest, known.whole x rest i h, h.1 ms price run)

  -- a run that begins with the step's move, at the step's total
  run_of_step : (n : ℕ) (s : Step) (h : Has n s) → (ms : List Move) × Run b q h.state ms s.total
  run_of_step n s h = by h.move.next h.counts.move h.counts.rest h.counts.bound h.counts.total
    where
      by : (next : Option State) → IsChosen b q h.state (record { mv = h.move.mv; price = h.move.price; next = next_of next }) → (rest : ℕ) → RestIs Bound next rest → h.move.total ≡ h.move.price + rest
          → (ms : List Move) × Run b q h.state ms s.total
      by None c rest z t = (h.move.mv ∷ [], chosen_ends b q h.state h.move.mv h.move.price s.total c (let e = h.total in omega (arith, z, t, e)))
      by (Some y) c rest z t =
          let l = known.sound y rest z in
          (h.move.mv ∷ l.0.0, chosen_on b q h.state y h.move.mv l.0.0 h.move.price rest s.total c l.0.1 (let e = h.total in omega (arith, t, e)))

  -- the step of a move that is chosen
  pub step_with : (n : ℕ) (x : State) (mv : Move) (price rest : ℕ) (next : Option State) (node : Option ℕ) → slice_get xs n ≡ Some x → IsChosen b q x (record { mv = mv; price = price; next = next_of next }) → RestIs Bound next rest
      → IsNextNode xs next node → Has n (record { price = price; total = price + rest; word = move_code mv; next = node })
  step_with n x mv price rest next to e c z l = record {
    state = x;
    there = e;
    move = record { mv = mv; price = price; next = next; total = price + rest };
    counts = record { move = c; rest = rest; bound = z; total = refl };
    price = refl;
    total = refl;
    word = refl;
    next = l;
  }

  -- the first move of a run as a step, at no more than the run costs
  pub first_step : (n : ℕ) (x : State) (ms : List Move) (price : ℕ) → slice_get xs n ≡ Some x → Run b q x ms price → (s : Step) × Has n s × (s.total ≤ price)
  first_step n x [] price e run = absurd run
  first_step n x (m ∷ []) price e (fs, p, mv, f) = (_, step_with n x m (price_of fs p) 0 None None e (ends_chosen b q x m fs p mv) refl tt, omega (arith, f))
  first_step n x (m ∷ k ∷ ms) price e (fs, p, at, us, rest, mv, run, f) =
      let y : State = record { at = at; units = us; part = part_with x.part (begins m.role) p } in
      let c = goes_chosen b q x m fs p at us mv in
      let i = known.closed x y m (price_of fs p) (got_in xs n x e) c in
      let r = bound_of_run y (k ∷ ms) rest i run in
      let place = in_got xs y i in
      let le = r.2 in
      (_, step_with n x m (price_of fs p) r.0 (Some y) (Some place.0) e c r.1 place.1, omega (arith, f, le))

  -- what a step leads to
  pub record Onward (n m : ℕ) (s : Step) : Type 0 where
    pub from : State
    pub from_there : slice_get xs n ≡ Some from
    pub left : State
    pub left_there : slice_get xs m ≡ Some left
    pub mv : Move
    pub chosen : IsChosen b q from (record { mv = mv; price = s.price; next = At left })
    pub word : s.word ≡ move_code mv
    pub rest : ℕ
    pub bound : Bound left rest
    pub total : s.total ≡ s.price + rest

  pub onward : (n m : ℕ) (s : Step) → Has n s → s.next ≡ Some m → Onward n m s
  onward n m s h e = by h.move.next s.next e h.next h.counts.move h.counts.rest h.counts.bound h.counts.total
    where
      by : (next : Option State) (node : Option ℕ) → node ≡ Some m → IsNextNode xs next node → IsChosen b q h.state (record { mv = h.move.mv; price = h.move.price; next = next_of next }) → (rest : ℕ) → RestIs Bound next rest
          → h.move.total ≡ h.move.price + rest → Onward n m s
      by None None f l c rest z t = absurd (cc)
      by None (Some k) f l c rest z t = absurd l
      by (Some y) None f l c rest z t = absurd l
      by (Some y) (Some k) f l c rest z t =
          let same : k ≡ m = cc in record {
            from = h.state;
            from_there = h.there;
            left = y;
            left_there = subst (λ i. slice_get xs i ≡ Some y) same l;
            mv = h.move.mv;
            chosen = subst (λ p. IsChosen b q h.state (record { mv = h.move.mv; price = p; next = At y })) (sym h.price) c;
            word = h.word;
            rest = rest;
            bound = z;
            total = let a = h.total in let d = h.price in omega (arith, a, d, t);
          }

  -- what ends the journey
  pub record Ending (n : ℕ) (s : Step) : Type 0 where
    pub from : State
    pub from_there : slice_get xs n ≡ Some from
    pub mv : Move
    pub chosen : IsChosen b q from (record { mv = mv; price = s.price; next = Done })
    pub word : s.word ≡ move_code mv
    pub total : s.total ≡ s.price

  pub ending : (n : ℕ) (s : Step) → Has n s → s.next ≡ None → Ending n s
  ending n s h e = by h.move.next s.next e h.next h.counts.move h.counts.rest h.counts.bound h.counts.total
    where
      by : (next : Option State) (node : Option ℕ) → node ≡ None → IsNextNode xs next node → IsChosen b q h.state (record { mv = h.move.mv; price = h.move.price; next = next_of next }) → (rest : ℕ) → RestIs Bound next rest
          → h.move.total ≡ h.move.price + rest → Ending n s
      by None None f l c rest z t = record {
        from = h.state;
        from_there = h.there;
        mv = h.move.mv;
        chosen = subst (λ p. IsChosen b q h.state (record { mv = h.move.mv; price = p; next = Done })) (sym h.price) c;
        word = h.word;
        total = let a = h.total in let d = h.price in omega (arith, a, d, t, z);
      }
      by None (Some k) f l c rest z t = absurd l
      by (Some y) None f l c rest z t = absurd l
      by (Some y) (Some k) f l c rest z t = absurd (cc)

  -- a step of what is left costs at least its bound
  pub at_least : (m : ℕ) (y : State) (rest : ℕ) (t : Step) → slice_get xs m ≡ Some y → Bound y rest → Has m t → rest ≤ t.total
  at_least m y rest t e z k =
      let same : k.state ≡ y = some_same k.state y (sym k.there ∙ e) in
      let r = run_of_step m t k in
      (known.sound y rest z).1 r.0 t.total (subst (λ x. Run b q x r.0 t.total) same r.1)
