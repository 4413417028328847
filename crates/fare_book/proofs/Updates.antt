-- What is live by key, as one key changes, and how many keys are.
use Rattle.std.proofs.Common.{◌≡◌, ◌⊎◌, ◌≤◌, ◌<◌, ◌+◌, ℕ, Bool, false, cond, Option, Some, None, Decides, IsSome, refl, sym, ap, subst, ◌∙◌, inl, inr, arith}
use Rattle.std.proofs.lemmas.Bool.{cases_Bool, cases_lt}
use Rattle.fare_law.specs.Lists.{HasMany}
use Rattle.fare_book.specs.Counts.{AtMost, Exactly}
use Rattle.fare_book.proofs.Counting.{count_less, count_more, count_same, most_more, most_same}
use Rattle.law_lemmas.proofs.Options.{some_there}

none_some : {A G : Type 0} (o : Option A) → o ≡ None → IsSome o → G
none_some None e s = absurd (cc)
none_some (Some x) e s = absurd (cc)

-- one more at most, where there aren't as many as there may be
pub most_less : {K : Type 0} (P : K → Type 0) (n : ℕ) → AtMost (n + 1) P → (HasMany (n + 1) P → ⊥) → AtMost n P
most_less P n a none m many = elim (cases_lt n m) [
  | inl h ↦ absurd (none (subst (λ k. HasMany k P) (is m h (a m many)) many))
  | inr h ↦ h
]
  where
    is : (m : ℕ) → n < m → m ≤ n + 1 → m ≡ n + 1
    is m h k = omega (arith, h, k)

module _ {K V : Type 0} (same : K → K → Bool) (tells : (a b : K) → Decides (same a b) (a ≡ b)) (f g : K → Option V) (k : K) (w : Option V) (step : (q : K) → g q ≡ cond (same q k) w (f q)) where
  pub at_key : g k ≡ w
  at_key = step k ∙ ap (λ b. cond b w (f k)) ((tells k k).1 refl)

  pub elsewhere : (q : K) → same q k ≡ false → g q ≡ f q
  elsewhere q apart = step q ∙ ap (λ b. cond b w (f q)) apart

  pub either : (q : K) → (q ≡ k) ⊎ (g q ≡ f q)
  either q = elim (cases_Bool (same q k)) [
    | inl t ↦ inl ((tells q k).0 t)
    | inr t ↦ inr (elsewhere q t)
  ]

  still : (v : V) → w ≡ Some v → (q : K) → IsSome (f q) → IsSome (g q)
  still v is q s = elim (either q) [
    | inl e ↦ subst (λ r. IsSome (g r)) (sym e) (some_there (g k) v (at_key ∙ is))
    | inr e ↦ subst IsSome (sym e) s
  ]

  back : (q : K) → IsSome (g q) → (q ≡ k) ⊎ IsSome (f q)
  back q s = elim (either q) [
    | inl e ↦ inl e
    | inr e ↦ inr (subst IsSome e s)
  ]

  pub count_new : (v : V) (n : ℕ) → w ≡ Some v → f k ≡ None → Exactly n (λ q. IsSome (f q)) → Exactly (n + 1) (λ q. IsSome (g q))
  count_new v n is none c = count_more (λ q. IsSome (f q)) (λ q. IsSome (g q)) k n (still v is) (some_there (g k) v (at_key ∙ is)) (λ s. none_some (f k) none s) back c

  pub count_old : (v o : V) (n : ℕ) → w ≡ Some v → f k ≡ Some o → Exactly n (λ q. IsSome (f q)) → Exactly n (λ q. IsSome (g q))
  count_old v o n is was c = count_same (λ q. IsSome (f q)) (λ q. IsSome (g q)) (still v is) was_live n c
    where
      was_live : (q : K) → IsSome (g q) → IsSome (f q)
      was_live q s = elim (back q s) [
        | inl e ↦ subst (λ r. IsSome (f r)) (sym e) (some_there (f k) o was)
        | inr h ↦ h
      ]

  pub count_gone : (o : V) (n m : ℕ) → w ≡ None → f k ≡ Some o → m + 1 ≡ n → Exactly n (λ q. IsSome (f q)) → Exactly m (λ q. IsSome (g q))
  count_gone o n m is was s c = count_less (λ q. IsSome (f q)) (λ q. IsSome (g q)) k n was_live (some_there (f k) o was) (λ h. none_some (g k) (at_key ∙ is) h) now c m s
    where
      was_live : (q : K) → IsSome (g q) → IsSome (f q)
      was_live q h = elim (back q h) [
        | inl e ↦ subst (λ r. IsSome (f r)) (sym e) (some_there (f k) o was)
        | inr h ↦ h
      ]

      now : (q : K) → IsSome (f q) → (q ≡ k) ⊎ IsSome (g q)
      now q h = elim (either q) [
        | inl e ↦ inl e
        | inr e ↦ inr (subst IsSome (sym e) h)
      ]

  pub few_new : (n : ℕ) → AtMost n (λ q. IsSome (f q)) → AtMost (n + 1) (λ q. IsSome (g q))
  few_new n a = most_more (λ q. IsSome (f q)) (λ q. IsSome (g q)) k n back a

  pub few_old : (o : V) (n : ℕ) → f k ≡ Some o → AtMost n (λ q. IsSome (f q)) → AtMost n (λ q. IsSome (g q))
  few_old o n was a = most_same (λ q. IsSome (f q)) (λ q. IsSome (g q)) was_live n a
    where
      was_live : (q : K) → IsSome (g q) → IsSome (f q)
      was_live q s = elim (back q s) [
        | inl e ↦ subst (λ r. IsSome (f r)) (sym e) (some_there (f k) o was)
        | inr h ↦ h
      ]
