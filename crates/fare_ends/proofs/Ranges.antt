-- What stands from one place up to another.
use Rattle.std.proofs.Common.{◌≡◌, ℕ, ◌-◌, List, [], ◌∷◌, ◌++◌, length, take, drop, slice_get, Some, refl, sym, ap, subst, ◌∙◌, length-append, length-drop, arith}
use Rattle.std.proofs.lemmas.List.{drop-append-le, drop_at, take-append-le}
use Rattle.fare_ends.specs.Ends.{IsRange, between}
use Rattle.fare_law.specs.Lists.{IsPrefix}
use Rattle.law_lemmas.proofs.Lists.{got_left}

module _ {X : Type 0} where
  -- it stays there as more is added
  pub between_left : (xs ys : List X) (from to : ℕ) → IsRange xs from to → between (xs ++ ys) from to ≡ between xs from to
  between_left xs ys from to r =
      let w = r.within in
      let t = r.in_turn in
      let long = length-drop from xs in
      ap (take (to - from)) (drop-append-le from xs ys (omega (arith, w, t))) ∙ take-append-le (to - from) (drop from xs) ys (omega (arith, w, t, long))

  pub range_left : (xs ys : List X) (from to : ℕ) → IsRange xs from to → IsRange (xs ++ ys) from to
  range_left xs ys from to r = record { in_turn = r.in_turn; within = let w = r.within in let l = length-append xs ys in omega (arith, w, l) }

  pub between_more : (xs ys : List X) (from to : ℕ) → IsPrefix xs ys → IsRange xs from to → between ys from to ≡ between xs from to
  between_more xs ys from to p r = ap (λ zs. between zs from to) p.1 ∙ between_left xs p.0 from to r

  pub range_more : (xs ys : List X) (from to : ℕ) → IsPrefix xs ys → IsRange xs from to → IsRange ys from to
  range_more xs ys from to p r = subst (λ zs. IsRange zs from to) (sym p.1) (range_left xs p.0 from to r)

  pub got_more : (xs ys : List X) (n : ℕ) (x : X) → IsPrefix xs ys → slice_get xs n ≡ Some x → slice_get ys n ≡ Some x
  got_more xs ys n x p e = ap (λ zs. slice_get zs n) p.1 ∙ got_left xs p.0 n x e

  -- what was added stands from the old length up to the new one
  pub between_last : (xs ys : List X) (from to : ℕ) → from ≡ length xs → to ≡ length (xs ++ ys) → between (xs ++ ys) from to ≡ ys
  between_last xs ys from to e f =
      let l = length-append xs ys in
      ap (take (to - from)) (drop_at xs ys from (sym e)) ∙ whole (to - from) ys (omega (arith, e, f, l))
    where
      whole : (n : ℕ) (zs : List X) → n ≡ length zs → take n zs ≡ zs
      whole n zs e = ap (λ m. take m zs) e ∙ full zs
        where
          full : (zs : List X) → take (length zs) zs ≡ zs
          full [] = refl
          full (z ∷ zs) = ap (λ ws. z ∷ ws) (full zs)

  pub range_last : (xs ys : List X) (from to : ℕ) → from ≡ length xs → to ≡ length (xs ++ ys) → IsRange (xs ++ ys) from to
  range_last xs ys from to e f = let l = length-append xs ys in record { in_turn = omega (arith, e, f, l); within = omega (arith, f) }
