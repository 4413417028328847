-- What holds of nodes, one after the other from the last, and so of all of them.
use Rattle.std.proofs.Common.{◌≡◌, ◌⊎◌, ◌∙◌, ℕ, zero, suc, ◌+◌, ◌<◌, ◌≤◌, List, [], ◌∷◌, length, Option, Some, option_map, slice_get, refl, sym, ap, subst, inl, inr, ⊎_elim, arith}
use Rattle.fare_law.specs.Lists.{Each, IsIn}
use Rattle.graph_walk.specs.Walks.{states}
use Rattle.law_lemmas.proofs.EachOne.{each_from}
use Rattle.law_lemmas.proofs.Options.{some_same}

first_or_behind : (m n : ℕ) → n ≤ m → (n + 1 ≤ m) ⊎ (m ≡ n)
first_or_behind zero zero h = inr refl
first_or_behind zero (suc n) h = absurd (omega (arith, h))
first_or_behind (suc m) zero h = inl (omega arith)
first_or_behind (suc m) (suc n) h = ⊎_elim (λ l. inl (omega (arith, l))) (λ e. inr (ap suc e)) (first_or_behind m n (omega (arith, h)))

-- a node stands at a place below the count
within : {X : Type 0} (nodes : List (X × Option ℕ)) (m : ℕ) (x : X) → option_map (λ node. node.0) (slice_get nodes m) ≡ Some x → m < length nodes
within [] m x e = absurd (cc)
within (node ∷ nodes) zero x e = omega arith
within (node ∷ nodes) (suc m) x e = let lt = within nodes m x e in omega (arith, lt)

-- the place of a state among the nodes
place_in : {X : Type 0} (x : X) (nodes : List (X × Option ℕ)) → IsIn x (states nodes) → (m : ℕ) × (option_map (λ node. node.0) (slice_get nodes m) ≡ Some x)
place_in x [] i = absurd i
place_in x (node ∷ nodes) (inl e) = (0, ap Some (sym e))
place_in x (node ∷ nodes) (inr i) = let r = place_in x nodes i in (suc r.0, r.1)

-- it holds of each node from this one on
abbrev pub HoldFrom : {X : Type 0} → (X → Type 0) → List (X × Option ℕ) → ℕ → Type 0
HoldFrom P nodes n = (m : ℕ) (x : _) → n ≤ m → option_map (λ node. node.0) (slice_get nodes m) ≡ Some x → P x

module _ {X : Type 0} (P : X → Type 0) (nodes : List (X × Option ℕ)) where
  -- behind the last node there is none
  pub none_behind : (n : ℕ) → n ≡ length nodes → HoldFrom P nodes n
  none_behind n e m x le is = let lt = within nodes m x is in absurd (omega (arith, lt, le, e))

  pub one_more : (n : ℕ) (x : X) → HoldFrom P nodes (n + 1) → option_map (λ node. node.0) (slice_get nodes n) ≡ Some x → P x → HoldFrom P nodes n
  one_more n x behind at here m y le is =
      ⊎_elim (λ l. behind m y l is) (λ e. subst P (some_same x y (sym at ∙ ap (λ k. option_map (λ node. node.0) (slice_get nodes k)) (sym e) ∙ is)) here) (first_or_behind m n le)

  pub all_hold : (n : ℕ) → ◌≡◌ {A = ℕ} n 0 → HoldFrom P nodes n → Each P (states nodes)
  all_hold n none from = each_from P (states nodes) (λ x i. let at = place_in x nodes i in from at.0 x (omega (arith, none)) at.1)
