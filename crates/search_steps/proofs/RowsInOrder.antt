-- Rows that are sorted by what their keys compare by stand in the order of their residuals. Given on to the crates above.
use Rattle.std.proofs.Common.{◌≡◌, ◌↔◌, ◌⊎◌, ℕ, suc, sym, ◌+◌, Bool, true, false, List, [], ◌∷◌, map, get_or, Option, refl, ap, subst, arith, inl, inr}
use Rattle.std.specs.declared.cmp.Ordering.{Ordering}
use Rattle.std.specs.declared.cmp.Ordering.TheVariants.{Less as Lower}
use Rattle.std.specs.List.{IsDistinct}
use Rattle.std.specs.List.Sorted.{IsPermutation}
use Rattle.std.specs.Ordering.{is_lt}
use Rattle.std.proofs.lemmas.Map.Keys.{IsDistinct-head, IsDistinct-tail}
use Rattle.fare_law.specs.Lists.{Each, EachPair, IsIn}
use Rattle.graph_walk.specs.Steps.{AreLive, TellsStates, rows_of}
use Rattle.graph_walk.specs.Walks.{states}
use Rattle.residual_keys.proofs.SortedWords.{NoneLower, same_elements}
use Rattle.law_lemmas.proofs.EachOne.{each_from, each_member}

module _ {K X : Type 0} (live : K → Type 0) (state : K → X) (Below : X → X → Type 0) (compare : K → K → Ordering) (same : K → K → Bool) (ordered : (k l : K) → live k → live l → (compare k l ≡ Lower) ↔ Below (state k) (state l))
    (tells : TellsStates live state same) (total : (x y : X) → Below x y ⊎ ((x ≡ y) ⊎ Below y x)) where
  next_before : (k l : K) → live k → live l → is_lt (compare l k) ≡ false → same k l ≡ false → Below (state k) (state l)
  next_before k l h i s d = elim (total (state k) (state l)) [
    | inl b ↦ b
    | inr o ↦ elim o [
      | inl e ↦ let t : same k l ≡ true = (tells k l h i).1 e in absurd (cc)
      | inr b ↦ let t : is_lt (compare l k) ≡ true = ap is_lt ((ordered l k i h).1 b) in absurd (cc)
    ]
  ]

  pub rows_ordered : (rows : List (K × Option ℕ)) → NoneLower (λ r s. compare r.0 s.0) rows → IsDistinct same (map (λ r. r.0) rows) → AreLive live rows → EachPair (λ r s. Below (state r.0) (state s.0)) rows
  rows_ordered [] s d h = tt
  rows_ordered (r ∷ []) s d h = tt
  rows_ordered (r ∷ t ∷ rows) s d h = (
    next_before r.0 t.0 h.0 h.1.0 (s 0 r (omega arith) (omega arith)) (IsDistinct-head same r.0 (map (λ z. z.0) (t ∷ rows)) d).0,
    rows_ordered (t ∷ rows) (λ k z low lt. rest k z (s (suc k) z (omega arith) (omega arith))) (IsDistinct-tail same r.0 (map (λ z. z.0) (t ∷ rows)) d) h.1,
  )
    where
      next : (k : ℕ) → suc k + 1 ≡ suc (k + 1)
      next k = omega arith

      rest : (k : ℕ) (z : K × Option ℕ) → is_lt (compare (get_or (r ∷ t ∷ rows) (suc k + 1) z).0 (get_or (t ∷ rows) k z).0) ≡ false → is_lt (compare (get_or (t ∷ rows) (k + 1) z).0 (get_or (t ∷ rows) k z).0) ≡ false
      rest k z q = subst (λ n. is_lt (compare (get_or (r ∷ t ∷ rows) n z).0 (get_or (t ∷ rows) k z).0) ≡ false) (next k) q

-- what holds of each element holds of each in another order
pub still_each : {X : Type 0} (P : X → Type 0) (old new : List X) → IsPermutation old new → Each P old → Each P new
still_each P old new p h = each_from P new (λ r i. each_member P r old h ((same_elements r old new p).1 i))

-- of each element both hold
pub each_both : {X : Type 0} (P Q : X → Type 0) (xs : List X) → Each P xs → Each Q xs → Each (λ x. P x × Q x) xs
each_both P Q [] h k = tt
each_both P Q (x ∷ xs) h k = ((h.0, k.0), each_both P Q xs h.1 k.1)

-- rows as those of states
module _ {K X : Type 0} (f : K → X) where
  in_states : (x : X) (es : List (K × Option ℕ)) → IsIn x (states (rows_of f es)) → (e : K × Option ℕ) × IsIn e es × (x ≡ f e.0)
  in_states x [] i = absurd i
  in_states x (e ∷ es) (inl s) = (e, inl refl, s)
  in_states x (e ∷ es) (inr i) = let r = in_states x es i in (r.0, inr r.1, r.2)

  to_states : (e : K × Option ℕ) (es : List (K × Option ℕ)) → IsIn e es → IsIn (f e.0) (states (rows_of f es))
  to_states e [] i = absurd i
  to_states e (d ∷ es) (inl s) = inl (ap (λ z. f z.0) s)
  to_states e (d ∷ es) (inr i) = inr (to_states e es i)

  pub same_states : (x : X) (es fs : List (K × Option ℕ)) → IsPermutation es fs → IsIn x (states (rows_of f es)) ↔ IsIn x (states (rows_of f fs))
  same_states x es fs p = (
    λ i. let r = in_states x es i in subst (λ z. IsIn z (states (rows_of f fs))) (sym r.2) (to_states r.0 fs ((same_elements r.0 es fs p).0 r.1)),
    λ i. let r = in_states x fs i in subst (λ z. IsIn z (states (rows_of f es))) (sym r.2) (to_states r.0 es ((same_elements r.0 es fs p).1 r.1)),
  )

  pub from_nodes : (P : X × Option ℕ → Type 0) (es : List (K × Option ℕ)) → Each P (rows_of f es) → Each (λ e. P (f e.0, e.1)) es
  from_nodes P [] h = tt
  from_nodes P (e ∷ es) h = (h.0, from_nodes P es h.1)

  pub to_nodes : (P : X × Option ℕ → Type 0) (es : List (K × Option ℕ)) → Each (λ e. P (f e.0, e.1)) es → Each P (rows_of f es)
  to_nodes P [] h = tt
  to_nodes P (e ∷ es) h = (h.0, to_nodes P es h.1)
