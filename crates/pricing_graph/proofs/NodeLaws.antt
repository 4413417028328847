-- The steps of a graph's nodes keep to the laws of steps.
use Rattle.std.proofs.Common.{◌≡◌, ◌∙◌, ℕ, ◌+◌, ◌≤◌, List, [], ◌∷◌, length, slice_get, Option, Some, None, refl, sym, ap, subst, inl, inr, arith}
use Rattle.best_steps.specs.declared.steps.Step.{Step}
use Rattle.best_steps.specs.Runs.{Leads, StepLaws, price_of as steps_price, word_of}
use Rattle.fare_law.specs.declared.requests.Request.{Request}
use Rattle.fare_law.specs.Book.{Book}
use Rattle.fare_law.specs.Lists.{IsPrefix}
use Rattle.fare_law.specs.Codes.{move_code}
use Rattle.residual_keys.specs.Residuals.{State}
use Rattle.search_steps.specs.declared.least.LeastMove.{LeastMove}
use Rattle.search_steps.specs.Leads.{next_of}
use Rattle.search_steps.specs.LeastMoves.{Counts, RestIs}
use Rattle.pricing_graph.specs.NodeSteps.{HasStep, IsNextNode, level_at}
use Rattle.pricing_graph.proofs.NodePlaces.{level_is, one_node}
use Rattle.pricing_graph.proofs.NodeMoves.{Known, at_least, ending, first_step, least_one, onward}
use Rattle.pricing_graph.proofs.StepRuns.{run_low}
use Rattle.law_lemmas.proofs.Lists.{got_within}
use Rattle.law_lemmas.proofs.Members.{got_in}
use Rattle.law_lemmas.proofs.Options.{some_same}

module _ (b : Book) (q : Request) (xs : List State) (Bound : State → ℕ → Type 0) (known : Known b q xs Bound) where
  abbrev Has : ℕ → Step → Type 0
  Has = HasStep b q Bound xs

  met : (n m : ℕ) (s : Step) → Has n s → s.next ≡ Some m → (t : Step) × Has m t × (s.total ≡ s.price + t.total)
  met n m s h e =
      let o = onward b q xs Bound known n m s h e in
      let l = known.sound o.left o.rest o.bound in
      let f = first_step b q xs Bound known m o.left l.0.0 o.rest o.left_there l.0.1 in
      let high = f.2 in
      let low = at_least b q xs Bound known m o.left o.rest f.0 o.left_there o.bound f.1 in
      let t = o.total in
      (f.0, f.1, omega (arith, high, low, t))

  bound_same : (next : Option State) (r s : ℕ) → RestIs Bound next r → RestIs Bound next s → r ≡ s
  bound_same None r s h k = h ∙ sym k
  bound_same (Some y) r s h k = least_one b q y r s (known.sound y r h) (known.sound y s k)

  next_same : (k l : Option State) → next_of k ≡ next_of l → k ≡ l
  next_same None None e = refl
  next_same None (Some y) e = absurd (cc)
  next_same (Some x) None e = absurd (cc)
  next_same (Some x) (Some y) e = cc

  -- steps of one node with one move are one
  step_same : (s t : Step) (x : State) (m n : LeastMove State) → Counts b q Bound x m → Counts b q Bound x n → m.mv ≡ n.mv → s.price ≡ m.price → t.price ≡ n.price → s.total ≡ m.total → t.total ≡ n.total → s.word ≡ t.word
      → IsNextNode xs m.next s.next → IsNextNode xs n.next t.next → s ≡ t
  step_same s t x m n h k e sp tp st tt' w sn tn =
      let same = known.one x (record { mv = m.mv; price = m.price; next = next_of m.next }) (record { mv = n.mv; price = n.price; next = next_of n.next }) h.move k.move e in
      let price : m.price ≡ n.price = ap (λ c. c.price) same in
      let next : m.next ≡ n.next = next_same m.next n.next (ap (λ c. c.next) same) in
      let rest : h.rest ≡ k.rest = bound_same n.next h.rest k.rest (subst (λ z. RestIs Bound z h.rest) next h.bound) k.bound in
      let prices : s.price ≡ t.price = sp ∙ price ∙ sym tp in
      let totals : s.total ≡ t.total = let a = h.total in let d = k.total in omega (arith, a, d, st, tt', price, rest) in
      let nodes : s.next ≡ t.next = one_node xs known.once n.next s.next t.next (subst (λ z. IsNextNode xs z s.next) next sn) tn in
      λ i. record { price = prices i; total = totals i; word = w i; next = nodes i }

  apart : (n : ℕ) (s t : Step) → Has n s → Has n t → IsPrefix s.word t.word → s ≡ t
  apart n s t h k p =
      let one : k.state ≡ h.state = some_same k.state h.state (sym k.there ∙ h.there) in
      let counted = subst (λ x. Counts b q Bound x k.move) one k.counts in
      let c = known.coded h.state (record { mv = h.move.mv; price = h.move.price; next = next_of h.move.next }) h.counts.move in
      let d = known.coded h.state (record { mv = k.move.mv; price = k.move.price; next = next_of k.move.next }) counted.move in
      let front : IsPrefix (move_code h.move.mv) (move_code k.move.mv) = subst (λ w. IsPrefix (move_code h.move.mv) w) k.word (subst (λ w. IsPrefix w t.word) h.word p) in
      let codes : move_code h.move.mv ≡ move_code k.move.mv = elim (known.apart h.move.mv k.move.mv c d) [ inl e ↦ e | inr a ↦ absurd (a.0 front) ] in
      step_same s t h.state h.move k.move h.counts counted (known.tells h.move.mv k.move.mv c d codes) h.price k.price h.total k.total (h.word ∙ codes ∙ sym k.word) h.next k.next

  pub step_laws : StepLaws Has (length xs) (level_at xs)
  step_laws = record {
    within = λ n m s h e. let o = onward b q xs Bound known n m s h e in got_within xs m o.left o.left_there;
    down = λ n m s h e.
        let o = onward b q xs Bound known n m s h e in
        let up = known.raises o.from o.left o.mv s.price (got_in xs n o.from o.from_there) o.chosen in
        let low = known.low o.left (got_in xs m o.left o.left_there) in
        omega (arith, up, low, level_is xs n o.from o.from_there, level_is xs m o.left o.left_there);
    apart = apart;
    last = λ n s h e. (ending b q xs Bound known n s h e).total;
    bound = λ n m s t h e k. let o = onward b q xs Bound known n m s h e in let low = at_least b q xs Bound known m o.left o.rest t o.left_there o.bound k in let total = o.total in omega (arith, low, total);
    met = met;
    small = λ n steps l. let r = low_run n steps l in omega (arith, r.0);
    short = λ n steps l. (low_run n steps l).1;
  }
    where
      low_run : (n : ℕ) (steps : List Step) → Leads Has (Some n) steps None → (steps_price steps ≤ 77309411328) × (length (word_of steps) ≤ 162)
      low_run n [] l = absurd (cc)
      low_run n (s ∷ more) l =
          let h = l.2 in
          let same : l.0 ≡ n = let f = l.1 in cc in
          let r = run_low b q xs Bound known n h.state (s ∷ more) (ap (slice_get xs) (sym same) ∙ h.there) l in
          (omega (arith, r.0), omega (arith, r.1))
