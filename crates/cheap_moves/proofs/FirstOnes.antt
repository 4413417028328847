-- The first of a list in order, and what comes after as many of them as are wanted.
use Rattle.std.proofs.Common.{◌≡◌, ◌≢◌, ◌⊎◌, ◌∙◌, ℕ, zero, suc, ◌-◌, ◌≤◌, List, [], ◌∷◌, length, take, get_or, refl, sym, ap, subst, inl, inr, arith}
use Rattle.std.proofs.lemmas.List.{take_all}
use Rattle.fare_law.specs.Lists.{AllDifferent, Each, EachPair, HasMany, IsIn, KLeast, OnLast}
use Rattle.residual_keys.proofs.LeastOne.{below_all, pairs_rest}
use Rattle.law_lemmas.proofs.EachOne.{each_from, each_in, each_weaker}

-- some things of a list, without its first one
record Behind {X : Type 0} (P : X → Type 0) (rest xs : List X) : Type 0 where
  pub those : List X
  pub many : length xs ≤ suc (length those)
  pub once : AllDifferent those
  pub each : Each (λ x. IsIn x rest × P x) those
  pub of : (x : X) → IsIn x those → IsIn x xs

behind : {X : Type 0} (P : X → Type 0) (s : X) (rest xs : List X) → AllDifferent xs → Each (λ x. IsIn x (s ∷ rest) × P x) xs → Behind P rest xs
behind P s rest [] d h = record { those = []; many = omega arith; once = tt; each = tt; of = λ x i. i }
behind {X} P s rest (x ∷ xs) d h = by h.0.0 (behind P s rest xs d.1 h.1)
  where
    all : x ≡ s → (zs : List X) → Each (λ z. x ≢ z) zs → Each (λ z. IsIn z (s ∷ rest) × P z) zs → Each (λ z. IsIn z rest × P z) zs
    all e [] a k = tt
    all e (z ∷ zs) a k = (elim k.0.0 [ inl f ↦ absurd (a.0 (e ∙ sym f)) | inr i ↦ (i, k.0.1) ], all e zs a.1 k.1)

    more : IsIn x rest → Behind P rest xs → Behind P rest (x ∷ xs)
    more i r = record {
      those = x ∷ r.those;
      many = omega (arith, r.many);
      once = (each_from (λ y. x ≢ y) r.those (λ y j. each_in (λ z. x ≢ z) xs y d.0 (r.of y j)), r.once);
      each = ((i, h.0.1), r.each);
      of = λ y j. elim j [ inl e ↦ inl e | inr k ↦ inr (r.of y k) ];
    }

    by : IsIn x (s ∷ rest) → Behind P rest xs → Behind P rest (x ∷ xs)
    by (inl e) r = record { those = xs; many = omega arith; once = d.1; each = all e xs d.0 h.1; of = λ y j. inr j }
    by (inr i) r = more i r

module _ {X : Type 0} (Below : X → X → Type 0) (trans : (x y z : X) → Below x y → Below y z → Below x z) where
  -- where so many have what each before them has too, the first so many have it
  pub first_have : (P : X → Type 0) → ((x y : X) → Below x y → P y → P x) → (k : ℕ) (sorted xs : List X) → EachPair Below sorted → k ≤ length xs → AllDifferent xs → Each (λ x. IsIn x sorted × P x) xs
      → Each P (take k sorted) × (length (take k sorted) ≡ k)
  first_have P down zero sorted xs o le d h = (tt, refl)
  first_have P down (suc k) sorted [] o le d h = absurd (omega (arith, le))
  first_have P down (suc k) [] (x ∷ xs) o le d h = absurd h.0.0
  first_have P down (suc k) (s ∷ rest) (x ∷ xs) o le d h =
      let r = behind P s rest (x ∷ xs) d h in
      let t = first_have P down k rest r.those (pairs_rest Below s rest o) (omega (arith, le, r.many)) r.once r.each in
      ((head h.0.0 h.0.1, t.0), ap suc t.1)
    where
      head : IsIn x (s ∷ rest) → P x → P s
      head (inl e) p = subst P e p
      head (inr i) p = down s x (each_in (Below s) rest x (below_all Below trans s rest o) i) p

  -- one of a list in order is among the first, or comes after so many
  parted : (k : ℕ) (sorted : List X) → EachPair Below sorted → (x : X) → IsIn x sorted → IsIn x (take k sorted) ⊎ (Each (λ y. Below y x) (take k sorted) × (length (take k sorted) ≡ k))
  parted zero sorted o x i = inr (tt, refl)
  parted (suc k) [] o x i = absurd i
  parted (suc k) (s ∷ rest) o x (inl e) = inl (inl e)
  parted (suc k) (s ∷ rest) o x (inr i) = elim (parted k rest (pairs_rest Below s rest o) x i) [
    | inl j ↦ inl (inr j)
    | inr h ↦ inr ((each_in (Below s) rest x (below_all Below trans s rest o) i, h.0), ap suc h.1)
  ]

  pub front_pairs : (k : ℕ) (xs : List X) → EachPair Below xs → EachPair Below (take k xs)
  front_pairs zero xs h = tt
  front_pairs (suc k) [] h = tt
  front_pairs (suc zero) (x ∷ xs) h = tt
  front_pairs (suc (suc k)) (x ∷ []) h = tt
  front_pairs (suc (suc k)) (x ∷ y ∷ xs) h = (h.0, front_pairs (suc k) (y ∷ xs) h.1)

  module _ (never : (x : X) → Below x x → ⊥) where
    pub differ : (xs : List X) → EachPair Below xs → AllDifferent xs
    differ [] h = tt
    differ (x ∷ xs) h = (each_weaker (Below x) (λ y. x ≢ y) (λ y b e. never x (subst (Below x) (sym e) b)) xs (below_all Below trans x xs h), differ xs (pairs_rest Below x xs h))

    -- so many of a list have it: all of it
    pub all_have : (P : X → Type 0) (k : ℕ) (xs : List X) → EachPair Below xs → Each P xs → length xs ≡ k → HasMany k (λ x. IsIn x xs × P x)
    all_have P k xs o h e = (xs, e, differ xs o, each_from (λ x. IsIn x xs × P x) xs (λ x i. (i, each_in P xs x h i)))

    -- where so many had it before the list was cut, so many have it then
    pub still_have : (P : X → Type 0) → ((x y : X) → Below x y → P y → P x) → (k : ℕ) (all sorted : List X) → ((x : X) → IsIn x all → IsIn x sorted) → EachPair Below sorted → HasMany k (λ x. IsIn x all × P x) → HasMany k (λ x. IsIn x (take k sorted) × P x)
    still_have P down k all sorted to o m =
        let t = first_have P down k sorted m.0 o (omega (arith, m.1)) m.2 (each_weaker (λ x. IsIn x all × P x) (λ x. IsIn x sorted × P x) (λ x p. (to x p.0, p.1)) m.0 m.3) in
        all_have P k (take k sorted) (front_pairs k sorted o) t.0 t.1

    -- what was kept, or came after so many that were, is so still
    pub still_kept : (k : ℕ) (all sorted : List X) → ((x : X) → IsIn x all → IsIn x sorted) → EachPair Below sorted → (x : X) → IsIn x all ⊎ HasMany k (λ y. IsIn y all × Below y x) → IsIn x (take k sorted) ⊎ HasMany k (λ y. IsIn y (take k sorted) × Below y x)
    still_kept k all sorted to o x (inl i) = elim (parted k sorted o x (to x i)) [
      | inl j ↦ inl j
      | inr h ↦ inr (all_have (λ y. Below y x) k (take k sorted) (front_pairs k sorted o) h.0 h.1)
    ]
    still_kept k all sorted to o x (inr m) = inr (still_have (λ y. Below y x) (λ u v b c. trans u v x b c) k all sorted to o m)

  -- where all else comes after so many, these are the first
  pub least_kept : (Has : X → Type 0) (k : ℕ) (xs : List X) → EachPair Below xs → Each Has xs → length xs ≤ k → ((x : X) → Has x → IsIn x xs ⊎ HasMany k (λ y. IsIn y xs × Below y x)) → KLeast Has Below k xs
  least_kept Has k xs o each few kept = record {
    ascending = o;
    each = each;
    few = few;
    rest = λ x has out. elim (kept x has) [
      | inl i ↦ absurd (out i)
      | inr m ↦
          let whole : take k xs ≡ xs = take_all k xs few in
          let t = first_have (λ y. Below y x) (λ u v b c. trans u v x b c) k xs m.0 o (omega (arith, m.1)) m.2 m.3 in
          (subst (Each (λ y. Below y x)) whole t.0, subst (λ ys. length ys ≡ k) whole t.1)
    ];
  }

pub front_few : {X : Type 0} (k : ℕ) (xs : List X) → length (take k xs) ≤ k
front_few zero xs = omega arith
front_few (suc k) [] = omega arith
front_few (suc k) (x ∷ xs) = omega (arith, front_few k xs)

-- what is read at the end of a list is the last
pub last_read : {X : Type 0} (P : X → Type 0) (d x : X) (xs : List X) → 1 ≤ length xs → x ≡ get_or xs (length xs - 1) d → P x → OnLast P xs
last_read P d x [] some e h = absurd (omega (arith, some))
last_read P d x (y ∷ []) some e h = subst P e h
last_read P d x (y ∷ z ∷ xs) some e h = last_read P d x (z ∷ xs) (omega arith) (e ∙ shift (length xs)) h
  where
    shift : (n : ℕ) → get_or (y ∷ z ∷ xs) (suc (suc n) - 1) d ≡ get_or (z ∷ xs) (suc n - 1) d
    shift n = ap (λ i. get_or (y ∷ z ∷ xs) i d) (step n)
      where
        step : (k : ℕ) → suc (suc k) - 1 ≡ suc (suc k - 1)
        step k = omega arith
