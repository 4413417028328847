-- Counts of keys, as one key comes or goes.
use Rattle.std.proofs.Common.{◌≡◌, ◌≢◌, ◌⊎◌, ◌≤◌, ◌+◌, ℕ, List, [], ◌∷◌, length, refl, sym, subst, ◌∙◌, inl, inr, arith}
use Rattle.fare_law.specs.Lists.{HasMany, AllDifferent, Each, IsIn}
use Rattle.fare_book.specs.Counts.{AtMost, Exactly}

module _ {K : Type 0} where
  pub each_from : (P : K → Type 0) (xs : List K) → ((x : K) → IsIn x xs → P x) → Each P xs
  each_from P [] h = tt
  each_from P (x ∷ xs) h = (h x (inl refl), each_from P xs (λ y i. h y (inr i)))

  pub in_each : (P : K → Type 0) (x : K) (xs : List K) → IsIn x xs → Each P xs → P x
  in_each P x [] i e = absurd i
  in_each P x (y ∷ ys) (inl s) e = subst P (sym s) e.0
  in_each P x (y ∷ ys) (inr i) e = in_each P x ys i e.1

  pub each_as : (P Q : K → Type 0) (xs : List K) → ((x : K) → P x → Q x) → Each P xs → Each Q xs
  each_as P Q [] h e = tt
  each_as P Q (x ∷ xs) h e = (h x e.0, each_as P Q xs h e.1)

  -- keys of a list without one of them
  record Without (P : K → Type 0) (xs : List K) : Type 0 where
    pub rest : List K
    pub differ : AllDifferent rest
    pub each : Each P rest
    pub many : length xs ≤ length rest + 1
    pub among : (q : K) → IsIn q rest → IsIn q xs

  without : (P : K → Type 0) (k : K) (xs : List K) → AllDifferent xs → Each (λ q. (q ≡ k) ⊎ P q) xs → Without P xs
  without P k [] d e = record { rest = []; differ = tt; each = tt; many = omega arith; among = λ q i. i }
  without P k (x ∷ xs) d e = elim e.0 [
    | inl s ↦ record {
      rest = xs;
      differ = d.1;
      each = each_from P xs (λ q i. other q (in_each (λ y. x ≢ y) q xs i d.0) s (in_each (λ y. (y ≡ k) ⊎ P y) q xs i e.1));
      many = omega arith;
      among = λ q i. inr i;
    }
    | inr p ↦ more p (without P k xs d.1 e.1)
  ]
    where
      other : (q : K) → x ≢ q → x ≡ k → (q ≡ k) ⊎ P q → P q
      other q n s (inl t) = absurd (n (s ∙ sym t))
      other q n s (inr p) = p

      more : P x → Without P xs → Without P (x ∷ xs)
      more p w = record {
        rest = x ∷ w.rest;
        differ = (each_from (λ y. x ≢ y) w.rest (λ q i. in_each (λ y. x ≢ y) q xs (w.among q i) d.0), w.differ);
        each = (p, w.each);
        many = omega (arith, w.many);
        among = among_more w;
      }
        where
          among_more : (w : Without P xs) (q : K) → IsIn q (x ∷ w.rest) → IsIn q (x ∷ xs)
          among_more w q (inl s) = inl s
          among_more w q (inr i) = inr (w.among q i)

  module _ (P Q : K → Type 0) (k : K) where
    pub most_more : (n : ℕ) → ((q : K) → Q q → (q ≡ k) ⊎ P q) → AtMost n P → AtMost (n + 1) Q
    most_more n h a m (keys, l, d, e) =
        let w : Without P keys = without P k keys d (each_as Q (λ q. (q ≡ k) ⊎ P q) keys h e) in
        omega (arith, l, w.many, a (length w.rest) (w.rest, refl, w.differ, w.each))

    many_more : (n : ℕ) → ((q : K) → P q → Q q) → Q k → (P k → ⊥) → HasMany n P → HasMany (n + 1) Q
    many_more n h has none (keys, l, d, e) = (
      k ∷ keys,
      omega (arith, l),
      (each_from (λ y. k ≢ y) keys (λ q i s. none (subst P (sym s) (in_each P q keys i e))), d),
      (has, each_as P Q keys h e),
    )

    pub count_more : (n : ℕ) → ((q : K) → P q → Q q) → Q k → (P k → ⊥) → ((q : K) → Q q → (q ≡ k) ⊎ P q) → Exactly n P → Exactly (n + 1) Q
    count_more n h has none back c = record { many = many_more n h has none c.many; most = most_more n back c.most }

    pub count_less : (n : ℕ) → ((q : K) → Q q → P q) → P k → (Q k → ⊥) → ((q : K) → P q → (q ≡ k) ⊎ Q q) → Exactly n P → (m : ℕ) → m + 1 ≡ n → Exactly m Q
    count_less n h has none back c m s = record {
      many = some c.many;
      most = λ o many. omega (arith, s, c.most (o + 1) (one_more o many));
    }
      where
        one_more : (o : ℕ) → HasMany o Q → HasMany (o + 1) P
        one_more o (keys, l, d, e) = (
          k ∷ keys,
          omega (arith, l),
          (each_from (λ y. k ≢ y) keys (λ q i t. none (subst Q (sym t) (in_each Q q keys i e))), d),
          (has, each_as Q P keys h e),
        )

        some : HasMany n P → HasMany m Q
        some (keys, l, d, e) =
            let w : Without Q keys = without Q k keys d (each_as P (λ q. (q ≡ k) ⊎ Q q) keys back e) in
            let most : length w.rest + 1 ≤ n = c.most (length w.rest + 1) (one_more (length w.rest) (w.rest, refl, w.differ, w.each)) in
            (w.rest, omega (arith, l, s, w.many, most), w.differ, w.each)

  module _ (P Q : K → Type 0) (to : (q : K) → P q → Q q) where
    pub many_same : (n : ℕ) → HasMany n P → HasMany n Q
    many_same n (keys, l, d, e) = (keys, l, d, each_as P Q keys to e)

  pub most_same : (P Q : K → Type 0) → ((q : K) → Q q → P q) → (n : ℕ) → AtMost n P → AtMost n Q
  most_same P Q h n a m many = a m (many_same Q P h m many)

  pub count_same : (P Q : K → Type 0) → ((q : K) → P q → Q q) → ((q : K) → Q q → P q) → (n : ℕ) → Exactly n P → Exactly n Q
  count_same P Q to back n c = record { many = many_same P Q to n c.many; most = most_same P Q back n c.most }

  pub count_none : (P : K → Type 0) → ((q : K) → P q → ⊥) → Exactly 0 P
  count_none P none = record { many = ([], refl, tt, tt); most = most }
    where
      most : (m : ℕ) → HasMany m P → m ≤ 0
      most m ([], l, d, e) = omega (arith, l)
      most m (x ∷ xs, l, d, e) = absurd (none x e.0)

  -- no key where the count is 0, and one where it isn't
  pub none_counted : (P : K → Type 0) (n : ℕ) → Exactly n P → n ≡ 0 → (q : K) → P q → ⊥
  none_counted P n c z q p = omega (arith, z, c.most 1 (q ∷ [], refl, (tt, tt), (p, tt)))

  pub some_counted : (P : K → Type 0) (n : ℕ) → Exactly n P → (n ≡ 0 → ⊥) → (q : K) × P q
  some_counted P n c s = first c.many
    where
      first : HasMany n P → (q : K) × P q
      first ([], l, d, e) = absurd (s (sym l))
      first (x ∷ xs, l, d, e) = (x, e.0)
