-- What is among the elements of a list. Given on to the crates above.
use Rattle.std.proofs.Common.{List, Some, [], ap, arith, get_or, inl, inr, length, refl, slice_get, suc, sym, zero, ℕ, ◌++◌, ◌<◌, ◌∷◌, ◌≡◌, ◌⊎◌}
use Rattle.fare_law.specs.Lists.{IsIn}

pub first_in : {X : Type 0} (xs : List X) (d : X) → (xs ≡ [] → ⊥) → IsIn (get_or xs 0 d) xs
first_in [] d ne = absurd (ne refl)
first_in (x ∷ xs) d ne = inl refl

pub got_in : {X : Type 0} (xs : List X) (n : ℕ) (x : X) → slice_get xs n ≡ Some x → IsIn x xs
got_in [] n x e = cc
got_in (y ∷ xs) zero x e = let same : x ≡ y = cc in inl same
got_in (y ∷ xs) (suc n) x e = inr (got_in xs n x e)

pub in_either : {A : Type 0} (x : A) (xs ys : List A) → IsIn x (xs ++ ys) → IsIn x xs ⊎ IsIn x ys
in_either x [] ys h = inr h
in_either x (y ∷ xs) ys h = elim h [ inl e ↦ inl (inl e) | inr k ↦ elim (in_either x xs ys k) [ inl a ↦ inl (inr a) | inr b ↦ inr b ] ]

pub in_got : {X : Type 0} (xs : List X) (x : X) → IsIn x xs → (n : ℕ) × (slice_get xs n ≡ Some x)
in_got [] x i = absurd i
in_got (y ∷ xs) x (inl e) = (0, ap Some (sym e))
in_got (y ∷ xs) x (inr i) = let r = in_got xs x i in (suc r.0, r.1)

pub in_left : {A : Type 0} (x : A) (xs ys : List A) → IsIn x xs → IsIn x (xs ++ ys)
in_left x [] ys h = absurd h
in_left x (y ∷ xs) ys h = elim h [ inl e ↦ inl e | inr k ↦ inr (in_left x xs ys k) ]

pub in_list : {X : Type 0} (xs : List X) (i : ℕ) (d : X) → i < length xs → IsIn (get_or xs i d) xs
in_list [] i d h = absurd (omega (arith, h))
in_list (x ∷ xs) zero d h = inl refl
in_list (x ∷ xs) (suc i) d h = inr (in_list xs i d (omega (arith, h)))

pub in_middle : {X : Type 0} (before : List X) (x : X) (after : List X) → IsIn x (before ++ x ∷ after)
in_middle [] x after = inl refl
in_middle (y ∷ before) x after = inr (in_middle before x after)

pub in_one : {X : Type 0} (x y : X) → IsIn x (y ∷ []) → x ≡ y
in_one x y (inl e) = e
in_one x y (inr h) = absurd h

pub in_right : {X : Type 0} (x : X) (xs ys : List X) → IsIn x ys → IsIn x (xs ++ ys)
in_right x [] ys h = h
in_right x (y ∷ xs) ys h = inr (in_right x xs ys h)

pub read_in : {X : Type 0} (xs : List X) (i : ℕ) (d x : X) → i < length xs → x ≡ get_or xs i d → IsIn x xs
read_in [] i d x lt e = absurd (omega arith)
read_in (y ∷ xs) zero d x lt e = inl e
read_in (y ∷ xs) (suc i) d x lt e = inr (read_in xs i d x (omega arith) e)
