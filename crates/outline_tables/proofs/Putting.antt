-- One element of a list in the place of another, and one behind the others.
use Rattle.std.proofs.Common.{◌≡◌, ◌≢◌, ◌⊎◌, ℕ, zero, suc, ◌<◌, List, [], ◌∷◌, ◌++◌, length, set, slice_get, Some, refl, sym, ap, ◌∙◌, inl, inr, arith}
use Rattle.fare_law.specs.Lists.{IsIn}
use Rattle.law_lemmas.proofs.Options.{none_some, some_same}

module _ {X : Type 0} where
  pub set_in : (xs : List X) (n : ℕ) (old x : X) → slice_get xs n ≡ Some old → IsIn x (set xs n x)
  set_in [] n old x e = absurd (none_some old e)
  set_in (y ∷ ys) zero old x e = inl refl
  set_in (y ∷ ys) (suc n) old x e = inr (set_in ys n old x e)

  pub set_only : (xs : List X) (n : ℕ) (x y : X) → IsIn y (set xs n x) → IsIn y xs ⊎ (y ≡ x)
  set_only [] n x y i = inl i
  set_only (z ∷ zs) zero x y (inl e) = inr e
  set_only (z ∷ zs) zero x y (inr i) = inl (inr i)
  set_only (z ∷ zs) (suc n) x y (inl e) = inl (inl e)
  set_only (z ∷ zs) (suc n) x y (inr i) = elim (set_only zs n x y i) [ inl h ↦ inl (inr h) | inr h ↦ inr h ]

  pub set_keeps : (xs : List X) (n : ℕ) (old x y : X) → slice_get xs n ≡ Some old → IsIn y xs → IsIn y (set xs n x) ⊎ (y ≡ old)
  set_keeps [] n old x y e i = absurd i
  set_keeps (z ∷ zs) zero old x y e (inl s) = inr (s ∙ some_same z old e)
  set_keeps (z ∷ zs) zero old x y e (inr i) = inl (inr i)
  set_keeps (z ∷ zs) (suc n) old x y e (inl s) = inl (inl s)
  set_keeps (z ∷ zs) (suc n) old x y e (inr i) = elim (set_keeps zs n old x y e i) [ inl h ↦ inl (inr h) | inr h ↦ inr h ]

  pub set_here : (xs : List X) (n : ℕ) (old x : X) → slice_get xs n ≡ Some old → slice_get (set xs n x) n ≡ Some x
  set_here [] n old x e = absurd (none_some old e)
  set_here (y ∷ ys) zero old x e = refl
  set_here (y ∷ ys) (suc n) old x e = set_here ys n old x e

  pub set_there : (xs : List X) (n m : ℕ) (x : X) → m ≢ n → slice_get (set xs n x) m ≡ slice_get xs m
  set_there [] n m x ne = refl
  set_there (y ∷ ys) zero zero x ne = absurd (ne refl)
  set_there (y ∷ ys) zero (suc m) x ne = refl
  set_there (y ∷ ys) (suc n) zero x ne = refl
  set_there (y ∷ ys) (suc n) (suc m) x ne = set_there ys n m x (λ e. ne (ap suc e))

  -- an element in its own place
  pub set_same : (xs : List X) (n : ℕ) (x : X) → slice_get xs n ≡ Some x → set xs n x ≡ xs
  set_same [] n x e = refl
  set_same (y ∷ ys) zero x e = ap (λ z. z ∷ ys) (sym (some_same y x e))
  set_same (y ∷ ys) (suc n) x e = ap (λ zs. y ∷ zs) (set_same ys n x e)

  -- there is an element at each place
  pub got_some : (xs : List X) (n : ℕ) → n < length xs → (x : X) × (slice_get xs n ≡ Some x)
  got_some [] n lt = absurd (omega (arith, lt))
  got_some (x ∷ xs) zero lt = (x, refl)
  got_some (x ∷ xs) (suc n) lt = got_some xs n (omega (arith, lt))

  -- an element of a longer list is one of the shorter or the last
  pub got_or_last : (xs : List X) (x : X) (n : ℕ) (y : X) → slice_get (xs ++ x ∷ []) n ≡ Some y → (slice_get xs n ≡ Some y) ⊎ ((n ≡ length xs) × (y ≡ x))
  got_or_last [] x zero y e = inr (refl, some_same y x (sym e))
  got_or_last [] x (suc n) y e = absurd (none_some y e)
  got_or_last (z ∷ zs) x zero y e = inl e
  got_or_last (z ∷ zs) x (suc n) y e = elim (got_or_last zs x n y e) [ inl h ↦ inl h | inr h ↦ inr (ap suc h.0, h.1) ]
