-- Lists that are read from the front, each element by itself.
use Rattle.std.proofs.Common.{◌≡◌, ℕ, zero, suc, ◌+◌, ◌≤◌, ◌<◌, List, [], ◌∷◌, ◌++◌, ◌⊎◌, take, length, get_or, refl, sym, subst, inl, inr, arith}
use Rattle.certificate_check.proofs.FromFront.{take_whole}
use Rattle.fare_law.specs.Lists.{Each, IsIn}
use Rattle.graph_walk.specs.declared.outcome.Outcome.{Outcome}
use Rattle.graph_walk.specs.Steps.{outcome_of, outcomes_of}
use Rattle.law_lemmas.proofs.EachOne.{each_more}
use Rattle.law_lemmas.proofs.Lists.{front_is}

pub each_next : {X : Type 0} (P : X → Type 0) (xs : List X) (i : ℕ) (x : X) → i < length xs → x ≡ get_or xs i x → Each P (take i xs) → P x → Each P (take (i + 1) xs)
each_next P xs i x lt is h p = subst (Each P) (sym (front_is xs i x lt is)) (each_more P (take i xs) x h p)

pub got_again : {X : Type 0} (xs : List X) (i : ℕ) (d : X) → i < length xs → get_or xs i d ≡ get_or xs i (get_or xs i d)
got_again [] i d lt = absurd (omega (arith, lt))
got_again (x ∷ xs) zero d lt = refl
got_again (x ∷ xs) (suc i) d lt = got_again xs i d (omega (arith, lt))

-- the same of what stands there, whatever is said to stand past the end
pub each_got : {X : Type 0} (P : X → Type 0) (xs : List X) (i : ℕ) (d : X) → i < length xs → Each P (take i xs) → P (get_or xs i d) → Each P (take (i + 1) xs)
each_got P xs i d lt h p = each_next P xs i (get_or xs i d) lt (got_again xs i d lt) h p

pub each_done : {X : Type 0} (P : X → Type 0) (xs : List X) (i : ℕ) → length xs ≤ i → Each P (take i xs) → Each P xs
each_done P xs i le h = subst (Each P) (take_whole xs i le) h

pub in_at : {X : Type 0} (xs : List X) (i : ℕ) (x : X) → i < length xs → x ≡ get_or xs i x → IsIn x xs
in_at [] i x lt is = omega (arith, lt)
in_at (y ∷ ys) zero x lt is = inl is
in_at (y ∷ ys) (suc i) x lt is = inr (in_at ys i x (omega (arith, lt)) is)

pub in_next : {X : Type 0} (xs : List X) (i : ℕ) (x y : X) → i < length xs → x ≡ get_or xs i x → IsIn y (take (i + 1) xs) → IsIn y (take i xs) ⊎ (y ≡ x)
in_next xs i x y lt is h = last_or (take i xs) (subst (IsIn y) (front_is xs i x lt is) h)
  where
    last_or : (zs : List _) → IsIn y (zs ++ x ∷ []) → IsIn y zs ⊎ (y ≡ x)
    last_or [] (inl e) = inr e
    last_or [] (inr n) = absurd n
    last_or (z ∷ zs) (inl e) = inl (inl e)
    last_or (z ∷ zs) (inr j) = elim (last_or zs j) [
      | inl k ↦ inl (inr k)
      | inr e ↦ inr e
    ]

pub in_done : {X : Type 0} (xs : List X) (i : ℕ) (y : X) → length xs ≤ i → IsIn y xs → IsIn y (take i xs)
in_done xs i y le h = subst (IsIn y) (sym (take_whole xs i le)) h

pub each_outcome : {K X : Type 0} (state : K → X) (P : Outcome X → Type 0) (os : List (Outcome K)) → Each P (outcomes_of state os) → Each (λ o. P (outcome_of state o)) os
each_outcome state P [] h = tt
each_outcome state P (o ∷ os) h = (h.0, each_outcome state P os h.1)

pub outcome_each : {K X : Type 0} (state : K → X) (P : Outcome X → Type 0) (os : List (Outcome K)) → Each (λ o. P (outcome_of state o)) os → Each P (outcomes_of state os)
outcome_each state P [] h = tt
outcome_each state P (o ∷ os) h = (h.0, outcome_each state P os h.1)
