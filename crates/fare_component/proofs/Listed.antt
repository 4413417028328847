-- Elements of lists, by the law's words on them.
use Rattle.std.proofs.Common.{◌≡◌, ◌⊎◌, List, [], ◌∷◌, ◌++◌, inl, inr}
use Rattle.std.specs.List.{All}
use Rattle.std.proofs.lemmas.List.Elements.{All-nil, All-cons}
use Rattle.fare_law.specs.Lists.{Each, IsIn}

pub each_all : {X : Type 0} (P : X → Type 0) (xs : List X) → Each P xs → All P xs
each_all P [] h = All-nil P
each_all P (x ∷ xs) h = All-cons P x xs h.0 (each_all P xs h.1)

pub in_push : {X : Type 0} (xs : List X) (y x : X) → IsIn x (xs ++ y ∷ []) → IsIn x xs ⊎ (x ≡ y)
in_push [] y x (inl e) = inr e
in_push [] y x (inr i) = absurd i
in_push (z ∷ zs) y x (inl e) = inl (inl e)
in_push (z ∷ zs) y x (inr i) = one_more (in_push zs y x i) where
  one_more : IsIn x zs ⊎ (x ≡ y) → IsIn x (z ∷ zs) ⊎ (x ≡ y)
  one_more (inl j) = inl (inr j)
  one_more (inr e) = inr e

pub in_front : {X : Type 0} (xs : List X) (y x : X) → IsIn x xs → IsIn x (xs ++ y ∷ [])
in_front [] y x i = absurd i
in_front (z ∷ zs) y x (inl e) = inl e
in_front (z ∷ zs) y x (inr i) = inr (in_front zs y x i)

pub in_last : {X : Type 0} (xs : List X) (y x : X) → x ≡ y → IsIn x (xs ++ y ∷ [])
in_last [] y x e = inl e
in_last (z ∷ zs) y x e = inr (in_last zs y x e)
