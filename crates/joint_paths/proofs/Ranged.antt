-- What stands from one place up to another in a list, and in fronts of it.
use Rattle.std.proofs.Common.{◌≡◌, ◌⊎◌, ℕ, zero, suc, ◌+◌, ◌-◌, ◌<◌, ◌≤◌, List, [], ◌∷◌, ◌++◌, length, map, take, drop, get_or, set, slice_get, Some, refl, sym, ap, subst, ◌∙◌, inl, inr, arith}
use Rattle.fare_ends.specs.Ends.{between}
use Rattle.fare_law.specs.Lists.{Each, IsIn}
use Rattle.law_lemmas.proofs.EachOne.{each_from}
use Rattle.law_lemmas.proofs.Lists.{front_at, map_end}
use Rattle.law_lemmas.proofs.Numbers.{here_or_before}
use Rattle.law_lemmas.proofs.Options.{some_same}

module _ {X : Type 0} where
  got_drop : (xs : List X) (from n : ℕ) (x : X) → slice_get xs n ≡ Some x → from ≤ n → (k : ℕ) × (slice_get (drop from xs) k ≡ Some x) × (from + k ≡ n)
  got_drop [] from n x e le = absurd (cc)
  got_drop (y ∷ ys) zero n x e le = (n, e, omega arith)
  got_drop (y ∷ ys) (suc f) zero x e le = absurd (omega (arith, le))
  got_drop (y ∷ ys) (suc f) (suc n) x e le = let r = got_drop ys f n x e (omega (arith, le)) in (r.0, r.1, let z = r.2 in omega (arith, z))

  pub got_take : (ys : List X) (m k : ℕ) (x : X) → slice_get ys k ≡ Some x → k < m → IsIn x (take m ys)
  got_take [] m k x e lt = absurd (cc)
  got_take (y ∷ ys) zero k x e lt = absurd (omega (arith, lt))
  got_take (y ∷ ys) (suc m) zero x e lt = inl (some_same x y (sym e))
  got_take (y ∷ ys) (suc m) (suc k) x e lt = inr (got_take ys m k x e (omega (arith, lt)))

  pub got_between : (xs : List X) (from to n : ℕ) (x : X) → slice_get xs n ≡ Some x → from ≤ n → n < to → IsIn x (between xs from to)
  got_between xs from to n x e le lt = let r = got_drop xs from n x e le in got_take (drop from xs) (to - from) r.0 x r.1 (let z = r.2 in omega (arith, z, le, lt))

  pub of_take : (ys : List X) (m : ℕ) (x : X) → IsIn x (take m ys) → (k : ℕ) × (slice_get ys k ≡ Some x) × (k < m)
  of_take ys zero x i = absurd i
  of_take [] (suc m) x i = absurd i
  of_take (y ∷ ys) (suc m) x (inl e) = (0, ap Some (sym e), omega arith)
  of_take (y ∷ ys) (suc m) x (inr i) = let r = of_take ys m x i in (suc r.0, r.1, let z = r.2 in omega (arith, z))

  of_drop : (xs : List X) (f k n : ℕ) (x : X) → n ≡ f + k → slice_get (drop f xs) k ≡ Some x → slice_get xs n ≡ Some x
  of_drop xs zero k n x e s = subst (λ m. slice_get xs m ≡ Some x) (let z : k ≡ n = omega (arith, e) in z) s
  of_drop [] (suc f) k n x e s = absurd (cc)
  of_drop (y ∷ ys) (suc f) k zero x e s = absurd (omega (arith, e))
  of_drop (y ∷ ys) (suc f) k (suc n) x e s = of_drop ys f k n x (omega (arith, e)) s

  pub of_between : (xs : List X) (from to : ℕ) (x : X) → IsIn x (between xs from to) → (n : ℕ) × (slice_get xs n ≡ Some x) × (from ≤ n) × (n < to)
  of_between xs from to x i =
      let r = of_take (drop from xs) (to - from) x i in
      (from + r.0, of_drop xs from r.0 (from + r.0) x refl r.1, omega arith, let z = r.2 in omega (arith, z))

  pub in_take : (n : ℕ) (xs : List X) (x : X) → IsIn x (take n xs) → IsIn x xs
  in_take zero xs x i = absurd i
  in_take (suc n) [] x i = absurd i
  in_take (suc n) (y ∷ ys) x (inl e) = inl e
  in_take (suc n) (y ∷ ys) x (inr i) = inr (in_take n ys x i)

  in_drop : (n : ℕ) (xs : List X) (x : X) → IsIn x (drop n xs) → IsIn x xs
  in_drop zero xs x i = i
  in_drop (suc n) [] x i = absurd i
  in_drop (suc n) (y ∷ ys) x i = inr (in_drop n ys x i)

  pub in_between : (xs : List X) (from to : ℕ) (x : X) → IsIn x (between xs from to) → IsIn x xs
  in_between xs from to x i = in_drop from xs x (in_take (to - from) (drop from xs) x i)

  -- what holds of each that stands there
  pub each_between : (P : X → Type 0) (xs : List X) (from to : ℕ) → ((n : ℕ) (x : X) → from ≤ n → n < to → slice_get xs n ≡ Some x → P x) → Each P (between xs from to)
  each_between P xs from to h = each_from P (between xs from to) (λ x i. let r = of_between xs from to x i in h r.0 x r.2 r.3 r.1)

  -- an item put in place of another
  pub set_got : (xs : List X) (i n : ℕ) (x y : X) → slice_get (set xs i x) n ≡ Some y → (slice_get xs n ≡ Some y) ⊎ ((n ≡ i) × (y ≡ x))
  set_got [] zero n x y e = inl e
  set_got [] (suc i) n x y e = inl e
  set_got (z ∷ zs) zero zero x y e = inr (refl, some_same y x (sym e))
  set_got (z ∷ zs) zero (suc n) x y e = inl e
  set_got (z ∷ zs) (suc i) zero x y e = inl e
  set_got (z ∷ zs) (suc i) (suc n) x y e = elim (set_got zs i n x y e) [ inl h ↦ inl h | inr r ↦ inr (ap suc r.0, r.1) ]

-- What holds of one item and each that stands from it up to another.
abbrev pub UpTo : {X : Type 0} → (X → X → Type 0) → List X → ℕ → ℕ → Type 0
UpTo {X} P xs from at = (one : X) → slice_get xs from ≡ Some one → (n : ℕ) (x : X) → from ≤ n → n < at → slice_get xs n ≡ Some x → P one x

module _ {X : Type 0} (P : X → X → Type 0) (xs : List X) (from : ℕ) where
  pub up_first : ((x : X) → P x x) → UpTo P xs from (from + 1)
  up_first self one e n x le lt got = subst (P one) (some_same one x (sym e ∙ ap (slice_get xs) (let z : from ≡ n = omega (arith, le, lt) in z) ∙ got)) (self one)

  pub up_next : (at : ℕ) (one x : X) → slice_get xs from ≡ Some one → slice_get xs at ≡ Some x → P one x → UpTo P xs from at → UpTo P xs from (at + 1)
  up_next at one x e there p h other o n y le lt got = elim (here_or_before n at lt) [
    | inl before ↦ h other o n y le before got
    | inr same ↦ subst (P other) (some_same x y (sym there ∙ ap (slice_get xs) (sym same) ∙ got)) (subst (λ z. P z x) (some_same one other (sym e ∙ o)) p)
  ]

  pub up_each : (at : ℕ) → UpTo P xs from at → (one : X) → slice_get xs from ≡ Some one → Each (P one) (between xs from at)
  up_each at h one e = each_between (P one) xs from at (λ n x le lt got. h one e n x le lt got)

module _ {X Y : Type 0} (f : X → Y) where
  drop_map : (n : ℕ) (xs : List X) → drop n (map f xs) ≡ map f (drop n xs)
  drop_map zero xs = refl
  drop_map (suc n) [] = refl
  drop_map (suc n) (x ∷ xs) = drop_map n xs

  take_map : (n : ℕ) (xs : List X) → take n (map f xs) ≡ map f (take n xs)
  take_map zero xs = refl
  take_map (suc n) [] = refl
  take_map (suc n) (x ∷ xs) = ap (λ ys. f x ∷ ys) (take_map n xs)

  pub between_map : (xs : List X) (from to : ℕ) → between (map f xs) from to ≡ map f (between xs from to)
  between_map xs from to = ap (take (to - from)) (drop_map from xs) ∙ take_map (to - from) (drop from xs)

  pub mapped_next : (xs : List X) (i : ℕ) (d : X) → i < length xs → map f (take i xs) ++ f (get_or xs i d) ∷ [] ≡ map f (take (i + 1) xs)
  mapped_next xs i d lt = sym (ap (map f) (front_at xs i d lt) ∙ map_end f (take i xs) (get_or xs i d))
