-- Lists with the same elements in another order.
use Rattle.std.proofs.Common.{List, [], ◌∷◌, All, refl, sym, subst, inl, inr}
use Rattle.std.specs.List.Sorted.{IsPermutation}
use Rattle.std.proofs.lemmas.List.Elements.{All-cons, All-nil, All-head, All-tail}
use Rattle.std.proofs.lemmas.List.Sorted.{All-permutation, IsPermutation-sym}
use Rattle.fare_law.specs.Lists.{Each, IsIn}
use Rattle.law_lemmas.proofs.EachOne.{each_from, each_in}

pub all_from : {X : Type 0} (P : X → Type 0) (xs : List X) → ((x : X) → IsIn x xs → P x) → All P xs
all_from P [] h = All-nil P
all_from P (x ∷ xs) h = All-cons P x xs (h x (inl refl)) (all_from P xs (λ y i. h y (inr i)))

pub all_in : {X : Type 0} (P : X → Type 0) (xs : List X) (x : X) → All P xs → IsIn x xs → P x
all_in P [] x h i = absurd i
all_in P (y ∷ ys) x h (inl s) = subst P (sym s) (All-head P y ys h)
all_in P (y ∷ ys) x h (inr i) = all_in P ys x (All-tail P y ys h) i

pub in_reordered : {X : Type 0} (xs ys : List X) (x : X) → IsPermutation xs ys → IsIn x xs → IsIn x ys
in_reordered xs ys x p i = all_in (λ y. IsIn y ys) xs x (All-permutation (λ y. IsIn y ys) ys xs (IsPermutation-sym xs ys p) (all_from (λ y. IsIn y ys) ys (λ y j. j))) i

pub each_reordered : {X : Type 0} (P : X → Type 0) (xs ys : List X) → IsPermutation xs ys → Each P xs → Each P ys
each_reordered P xs ys p h = each_from P ys (λ y j. each_in P xs y h (in_reordered ys xs y (IsPermutation-sym xs ys p) j))
