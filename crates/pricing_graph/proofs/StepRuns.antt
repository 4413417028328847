-- Runs of steps are runs of the search, and the other way round.
use Rattle.std.proofs.Common.{◌≡◌, ◌∙◌, ℕ, ◌+◌, ◌*◌, ◌≤◌, ◌<◌, List, [], ◌∷◌, ◌++◌, length, slice_get, Some, None, refl, sym, ap, ap₂, subst, arith, length-append}
use Rattle.best_steps.specs.declared.steps.Step.{Step}
use Rattle.best_steps.specs.Runs.{Leads, price_of as steps_price, word_of}
use Rattle.fare_law.specs.declared.moves.Move.{Move}
use Rattle.fare_law.specs.declared.requests.Request.{Request}
use Rattle.fare_law.specs.Book.{Book}
use Rattle.fare_law.specs.Codes.{basis_number, carrier_number, move_code, role_code, run_code}
use Rattle.fare_law.specs.Parts.{price_of}
use Rattle.residual_keys.specs.declared.residual.Chosen.{Chosen}
use Rattle.residual_keys.specs.declared.residual.Next.TheVariants.{At, Done}
use Rattle.residual_keys.specs.Residuals.{Run, State, begins, part_with}
use Rattle.residual_keys.specs.Steps.{IsChosen}
use Rattle.search_steps.specs.Leads.{level_of, next_of}
use Rattle.search_steps.proofs.Bridge.{chosen_ends, chosen_on}
use Rattle.pricing_graph.specs.NodeSteps.{HasStep}
use Rattle.pricing_graph.proofs.NodeMoves.{Known, bound_of_run, ending, goes_chosen, ends_chosen, onward, step_with}
use Rattle.law_lemmas.proofs.Members.{got_in, in_got}
use Rattle.law_lemmas.proofs.Options.{some_same}

module _ (b : Book) (q : Request) (xs : List State) (Bound : State → ℕ → Type 0) (known : Known b q xs Bound) where
  abbrev Has : ℕ → Step → Type 0
  Has = HasStep b q Bound xs

  -- the price of a move, and how long its code is
  pub step_low : (n : ℕ) (s : Step) → Has n s → (s.price < 4294967296) × (length s.word ≤ 9)
  step_low n s h =
      let c : Chosen = record { mv = h.move.mv; price = h.move.price; next = next_of h.move.next } in
      let low = known.cheap h.state c h.counts.move in
      let few = known.few h.state c h.counts.move in
      let p = h.price in
      let w = ap length h.word in
      (omega (arith, low, p), omega (arith, few, w, length-append h.move.mv.flights (code_tail h.move.mv)))
    where
      code_tail : Move → List ℕ
      code_tail m = carrier_number m.carrier ∷ basis_number m.basis ∷ role_code m.role ∷ m.slot ∷ []

  -- what a list of steps to the end costs, and how long its word is
  pub run_low : (n : ℕ) (x : State) (steps : List Step) → slice_get xs n ≡ Some x → Leads Has (Some n) steps None
      → (steps_price steps + 4294967296 * level_of x ≤ 77309411328) × (length (word_of steps) + 9 * level_of x ≤ 162)
  run_low n x [] e l = absurd (cc)
  run_low n x (s ∷ []) e (k, f, h, l) =
      let same : n ≡ k = cc in
      let low = step_low k s h in
      let level = known.low x (got_in xs n x e) in
      (omega (arith, low.0, level), omega (arith, low.1, level, length-append s.word []))
  run_low n x (s ∷ t ∷ more) e (k, f, h, (m, g, i, l)) =
      let same : k ≡ n = cc in
      let o = onward b q xs Bound known k m s h g in
      let from : o.from ≡ x = some_same o.from x (sym o.from_there ∙ ap (slice_get xs) same ∙ e) in
      let up = known.raises o.from o.left o.mv s.price (got_in xs k o.from o.from_there) o.chosen in
      let level = ap level_of from in
      let low = step_low k s h in
      let rest = run_low m o.left (t ∷ more) o.left_there (m, refl, i, l) in
      (omega (arith, low.0, up, level, rest.0), omega (arith, low.1, up, level, rest.1, length-append s.word (word_of (t ∷ more))))

  -- steps to the end are a run
  pub steps_run : (n : ℕ) (x : State) (steps : List Step) → slice_get xs n ≡ Some x → Leads Has (Some n) steps None → (ms : List Move) × Run b q x ms (steps_price steps) × (word_of steps ≡ run_code ms)
  steps_run n x [] e l = absurd (cc)
  steps_run n x (s ∷ []) e (k, f, h, l) =
      let same : k ≡ n = cc in
      let o = ending b q xs Bound known k s h l in
      let from : o.from ≡ x = some_same o.from x (sym o.from_there ∙ ap (slice_get xs) same ∙ e) in
      (o.mv ∷ [], chosen_ends b q x o.mv s.price (s.price + 0) (subst (λ z. IsChosen b q z (record { mv = o.mv; price = s.price; next = Done })) from o.chosen) (omega arith), ap (λ w. w ++ []) o.word)
  steps_run n x (s ∷ t ∷ more) e (k, f, h, (m, g, i, l)) =
      let same : k ≡ n = cc in
      let o = onward b q xs Bound known k m s h g in
      let from : o.from ≡ x = some_same o.from x (sym o.from_there ∙ ap (slice_get xs) same ∙ e) in
      let rest = steps_run m o.left (t ∷ more) o.left_there (m, refl, i, l) in (
        o.mv ∷ rest.0,
        chosen_on b q x o.left o.mv rest.0 s.price (steps_price (t ∷ more)) (s.price + steps_price (t ∷ more)) (subst (λ z. IsChosen b q z (record { mv = o.mv; price = s.price; next = At o.left })) from o.chosen) rest.1 refl,
        ap₂ (λ v w. v ++ w) o.word rest.2,
      )

  -- a run is steps to the end
  pub run_steps : (n : ℕ) (x : State) (ms : List Move) (price : ℕ) → slice_get xs n ≡ Some x → Run b q x ms price → (steps : List Step) × Leads Has (Some n) steps None × (price ≡ steps_price steps) × (run_code ms ≡ word_of steps)
  run_steps n x [] price e run = absurd run
  run_steps n x (m ∷ []) price e (fs, p, mv, f) = (_ ∷ [], (n, refl, step_with b q xs Bound known n x m (price_of fs p) 0 None None e (ends_chosen b q x m fs p mv) refl tt, refl), omega (arith, f), refl)
  run_steps n x (m ∷ k ∷ ms) price e (fs, p, at, us, rest, mv, run, f) =
      let y : State = record { at = at; units = us; part = part_with x.part (begins m.role) p } in
      let c = goes_chosen b q x m fs p at us mv in
      let i = known.closed x y m (price_of fs p) (got_in xs n x e) c in
      let r = bound_of_run b q xs Bound known y (k ∷ ms) rest i run in
      let place = in_got xs y i in
      let more = run_steps place.0 y (k ∷ ms) rest place.1 run in (
        _ ∷ more.0,
        (n, refl, step_with b q xs Bound known n x m (price_of fs p) r.0 (Some y) (Some place.0) e c r.1 place.1, more.1),
        f ∙ ap (λ z. price_of fs p + z) more.2,
        ap (λ w. move_code m ++ w) more.3,
      )
