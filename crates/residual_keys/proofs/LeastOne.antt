-- In a strict order, total on what is ordered, the list of the k least is one. This file is given on to the crates above.
use Rattle.std.proofs.Common.{◌≡◌, ℕ, ◌-◌, ◌⊎◌, List, [], ◌∷◌, sym, ap₂, ◌∙◌, refl, subst, inl, inr, arith}
use Rattle.fare_law.specs.Lists.{Each, EachPair, IsIn, KLeast}
use Rattle.law_lemmas.proofs.EachOne.{each_member, each_weaker}

both : {X : Type 0} (P Q : X → Type 0) (xs : List X) → Each P xs → Each Q xs → Each (λ x. P x × Q x) xs
both P Q [] h k = tt
both P Q (x ∷ xs) h k = ((h.0, k.0), both P Q xs h.1 k.1)

pub pairs_rest : {X : Type 0} (R : X → X → Type 0) (x : X) (xs : List X) → EachPair R (x ∷ xs) → EachPair R xs
pairs_rest R x [] h = tt
pairs_rest R x (y ∷ ys) h = h.1

pub below_all : {X : Type 0} (Below : X → X → Type 0) → ((x y z : X) → Below x y → Below y z → Below x z) → (x : X) (xs : List X) → EachPair Below (x ∷ xs) → Each (Below x) xs
below_all Below trans x [] h = tt
below_all Below trans x (y ∷ ys) h = (h.0, each_weaker (Below y) (Below x) (λ z k. trans x y z h.0 k) ys (below_all Below trans y ys h.1))

-- In a strict order, total on what Has names, the list of the k least is one.
pub k_least_one : {X : Type 0} (Below : X → X → Type 0) → ((x y z : X) → Below x y → Below y z → Below x z) → ((x : X) → Below x x → ⊥)
    → (xs ys : List X) (Has : X → Type 0) (k : ℕ) → ((x y : X) → Has x → Has y → Below x y ⊎ ((x ≡ y) ⊎ Below y x)) → KLeast Has Below k xs → KLeast Has Below k ys → xs ≡ ys
k_least_one Below trans never [] [] Has k total h g = refl
k_least_one Below trans never [] (y ∷ ys) Has k total h g = let r = h.rest y g.each.0 (λ i. i) in absurd (omega (arith, r.1, g.few))
k_least_one Below trans never (x ∷ xs) [] Has k total h g = let r = g.rest x h.each.0 (λ i. i) in absurd (omega (arith, r.1, h.few))
k_least_one {X} Below trans never (x ∷ xs) (y ∷ ys) Has k total h g =
    let xall = below_all Below trans x xs h.ascending in
    let yall = below_all Below trans y ys g.ascending in
    let e : x ≡ y = elim (total x y h.each.0 g.each.0) [
      | inl lt ↦ absurd (never x (trans x y x lt (g.rest x h.each.0 (out x y ys lt yall)).0.0))
      | inr o ↦ elim o [
        | inl s ↦ s
        | inr gt ↦ absurd (never y (trans y x y gt (h.rest y g.each.0 (out y x xs gt xall)).0.0))
      ]
    ] in
    ap₂ (λ z zs. z ∷ zs) e
    (k_least_one Below trans never xs ys (λ z. Has z × Below x z) (k - 1) (λ u v a b. total u v a.0 b.0)
    (record {
      ascending = pairs_rest Below x xs h.ascending;
      each = both Has (Below x) xs h.each.1 xall;
      few = omega (arith, h.few);
      rest = λ z a n. let r = h.rest z a.0 (λ i. elim i [ inl s ↦ never z (subst (λ w. Below w z) (sym s) a.1) | inr j ↦ n j ]) in (r.0.1, omega (arith, r.1));
    })
    (record {
      ascending = pairs_rest Below y ys g.ascending;
      each = both Has (Below x) ys g.each.1 (subst (λ w. Each (Below w) ys) (sym e) yall);
      few = omega (arith, g.few);
      rest = λ z a n. let r = g.rest z a.0 (λ i. elim i [ inl s ↦ never z (subst (λ w. Below w z) (e ∙ sym s) a.1) | inr j ↦ n j ]) in (r.0.1, omega (arith, r.1));
    }))
  where
    out : (u v : X) (vs : List X) → Below u v → Each (Below v) vs → IsIn u (v ∷ vs) → ⊥
    out u v vs lt all (inl s) = never v (subst (λ w. Below w v) s lt)
    out u v vs lt all (inr i) = never u (trans u v u lt (each_member (Below v) u vs all i))
