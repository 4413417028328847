-- The k least of things, and of those that match them one by one.
use Rattle.std.proofs.Common.{◌≡◌, ◌∙◌, ℕ, suc, ◌+◌, ◌<◌, List, [], ◌∷◌, ◌++◌, length, get_or, take, refl, sym, ap, subst, inl, inr, arith}
use Rattle.std.proofs.Math.Seq.{take-suc}
use Rattle.fare_law.specs.Lists.{Each, EachPair, IsIn, KLeast, Matched}

module _ {X Y : Type 0} (R : X → Y → Type 0) (Has : X → Type 0) (Has' : Y → Type 0) (Below : X → X → Type 0) (Below' : Y → Y → Type 0)
    (to : (x : X) (y : Y) → R x y → Has x → Has' y) (from : (y : Y) → Has' y → (x : X) × Has x × R x y) (one : (x : X) (y z : Y) → R x y → R x z → y ≡ z)
    (below : (x z : X) (y w : Y) → R x y → R z w → Below x z → Below' y w) where
  pairs : (xs : List X) (ys : List Y) → Matched R xs ys → EachPair Below xs → EachPair Below' ys
  pairs [] [] m h = tt
  pairs [] (y ∷ ys) m h = absurd m
  pairs (x ∷ xs) [] m h = absurd m
  pairs (x ∷ []) (y ∷ []) m h = tt
  pairs (x ∷ []) (y ∷ w ∷ ys) m h = absurd m.1
  pairs (x ∷ z ∷ xs) (y ∷ []) m h = absurd m.1
  pairs (x ∷ z ∷ xs) (y ∷ w ∷ ys) m h = (below x z y w m.0 m.1.0 h.0, pairs (z ∷ xs) (w ∷ ys) m.1 h.1)

  each : (xs : List X) (ys : List Y) → Matched R xs ys → Each Has xs → Each Has' ys
  each [] [] m h = tt
  each [] (y ∷ ys) m h = absurd m
  each (x ∷ xs) [] m h = absurd m
  each (x ∷ xs) (y ∷ ys) m h = (to x y m.0 h.0, each xs ys m.1 h.1)

  as_long : (xs : List X) (ys : List Y) → Matched R xs ys → length ys ≡ length xs
  as_long [] [] m = refl
  as_long [] (y ∷ ys) m = absurd m
  as_long (x ∷ xs) [] m = absurd m
  as_long (x ∷ xs) (y ∷ ys) m = ap suc (as_long xs ys m.1)

  partner : (xs : List X) (ys : List Y) (x : X) → Matched R xs ys → IsIn x xs → (y : Y) × IsIn y ys × R x y
  partner [] [] x m i = absurd i
  partner [] (y ∷ ys) x m i = absurd m
  partner (z ∷ xs) [] x m i = absurd m
  partner (z ∷ xs) (y ∷ ys) x m (inl e) = (y, inl refl, subst (λ v. R v y) (sym e) m.0)
  partner (z ∷ xs) (y ∷ ys) x m (inr i) = let p = partner xs ys x m.1 i in (p.0, inr p.1, p.2)

  all_below : (xs : List X) (ys : List Y) (x : X) (y : Y) → R x y → Matched R xs ys → Each (λ z. Below z x) xs → Each (λ w. Below' w y) ys
  all_below [] [] x y r m h = tt
  all_below [] (w ∷ ys) x y r m h = absurd m
  all_below (z ∷ xs) [] x y r m h = absurd m
  all_below (z ∷ xs) (w ∷ ys) x y r m h = (below z x w y m.0 r h.0, all_below xs ys x y r m.1 h.1)

  pub matched_least : (k : ℕ) (xs : List X) (ys : List Y) → Matched R xs ys → KLeast Has Below k xs → KLeast Has' Below' k ys
  matched_least k xs ys m h = record {
    ascending = pairs xs ys m h.ascending;
    each = each xs ys m h.each;
    few = let l = as_long xs ys m in let n = h.few in omega (arith, l, n);
    rest = λ y has out.
        let f = from y has in
        let r = h.rest f.0 f.1 (λ i. let p = partner xs ys f.0 m i in out (subst (λ z. IsIn z ys) (one f.0 p.0 y p.2 f.2) p.1)) in
        (all_below xs ys f.0 y f.2 m r.0, as_long xs ys m ∙ r.1);
  }

-- one more of each
module _ {X Y : Type 0} (R : X → Y → Type 0) where
  matched_on : (xs : List X) (ys : List Y) (x : X) (y : Y) → Matched R xs ys → R x y → Matched R (xs ++ x ∷ []) (ys ++ y ∷ [])
  matched_on [] [] x y m r = (r, tt)
  matched_on [] (w ∷ ys) x y m r = absurd m
  matched_on (z ∷ xs) [] x y m r = absurd m
  matched_on (z ∷ xs) (w ∷ ys) x y m r = (m.0, matched_on xs ys x y m.1 r)

  pub matched_more : (xs : List X) (ys : List Y) (i : ℕ) (x : X) (y : Y) → i < length xs → x ≡ get_or xs i x → Matched R (take i xs) ys → R x y → Matched R (take (i + 1) xs) (ys ++ y ∷ [])
  matched_more xs ys i x y lt is m r =
      let next : suc i ≡ i + 1 = omega arith in
      let front : take (i + 1) xs ≡ take i xs ++ x ∷ [] = ap (λ (n : ℕ). take n xs) (sym next) ∙ (take-suc xs i x lt ∙ ap (λ z. take i xs ++ z ∷ []) (sym is)) in
      subst (λ zs. Matched R zs (ys ++ y ∷ [])) (sym front) (matched_on (take i xs) ys x y m r)
