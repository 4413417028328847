-- Rows one after another: splits of a list, and the rows before one. Given on to the crates above.
use Rattle.std.proofs.Common.{◌≡◌, ℕ, ◌+◌, ◌<◌, ◌⊎◌, List, [], ◌∷◌, ◌++◌, length, drop, get_or, refl, sym, ap, ap₂, ◌∙◌, inl, inr}
use Rattle.std.proofs.Math.Seq.{drop-cons}
use Rattle.law_lemmas.proofs.Numbers.{suc_is}

pub rest_is : {X : Type 0} (xs : List X) (i : ℕ) (d x : X) → i < length xs → x ≡ get_or xs i d → drop i xs ≡ x ∷ drop (i + 1) xs
rest_is xs i d x lt e = drop-cons xs i d lt ∙ ap₂ (λ y n. y ∷ drop n xs) (sym e) (suc_is i)

-- where a list with one more is split, the split is at the last, or is one of the list
pub split_push : {X : Type 0} (xs : List X) (x : X) (before : List X) (r : X) (after : List X) → xs ++ x ∷ [] ≡ before ++ r ∷ after → ((before ≡ xs) × (r ≡ x)) ⊎ ((rest : List X) × (xs ≡ before ++ r ∷ rest))
split_push [] x [] r after e = inl (refl, cc)
split_push [] x (b ∷ []) r after e = absurd (cc)
split_push [] x (b ∷ c ∷ bs) r after e = absurd (cc)
split_push (y ∷ ys) x [] r after e = inr (ys, ap (λ z. z ∷ ys) (head e))
  where
    head : y ∷ (ys ++ x ∷ []) ≡ r ∷ after → y ≡ r
    head q = cc
split_push (y ∷ ys) x (b ∷ bs) r after e = elim (split_push ys x bs r after (tail e)) [
  | inl h ↦ inl (ap₂ (λ z zs. z ∷ zs) (sym (head e)) h.0, h.1)
  | inr h ↦ inr (h.0, ap₂ (λ z zs. z ∷ zs) (head e) h.1)
]
  where
    head : y ∷ (ys ++ x ∷ []) ≡ b ∷ (bs ++ r ∷ after) → y ≡ b
    head q = cc

    tail : y ∷ (ys ++ x ∷ []) ≡ b ∷ (bs ++ r ∷ after) → ys ++ x ∷ [] ≡ bs ++ r ∷ after
    tail q = cc

-- a list that is split twice is split at one place, or the one place stands before the other
pub splits : {X : Type 0} (xs : List X) (x : X) (xt ys : List X) (y : X) (yt : List X) → xs ++ x ∷ xt ≡ ys ++ y ∷ yt
    → ((xs ≡ ys) × (x ≡ y)) ⊎ (((rest : List X) × (xs ≡ ys ++ y ∷ rest)) ⊎ ((rest : List X) × (ys ≡ xs ++ x ∷ rest)))
splits [] x xt [] y yt e = inl (refl, cc)
splits [] x xt (b ∷ ys) y yt e = inr (inr (ys, cc))
splits (a ∷ xs) x xt [] y yt e = inr (inl (xs, cc))
splits (a ∷ xs) x xt (b ∷ ys) y yt e = elim (splits xs x xt ys y yt (tail e)) [
  | inl s ↦ inl (ap₂ (λ z zs. z ∷ zs) (head e) s.0, s.1)
  | inr o ↦ elim o [
    | inl s ↦ inr (inl (s.0, ap₂ (λ z zs. z ∷ zs) (head e) s.1))
    | inr s ↦ inr (inr (s.0, ap₂ (λ z zs. z ∷ zs) (sym (head e)) s.1))
  ]
]
  where
    head : a ∷ (xs ++ x ∷ xt) ≡ b ∷ (ys ++ y ∷ yt) → a ≡ b
    head q = cc

    tail : a ∷ (xs ++ x ∷ xt) ≡ b ∷ (ys ++ y ∷ yt) → xs ++ x ∷ xt ≡ ys ++ y ∷ yt
    tail q = cc
