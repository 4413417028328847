-- What holds of each element of a list. Given on to the crates above.
use Rattle.std.proofs.Common.{List, Some, [], arith, get_or, inl, inr, length, map, refl, slice_get, subst, suc, sym, take, zero, ℕ, ◌++◌, ◌<◌, ◌∷◌, ◌≡◌}
use Rattle.fare_law.specs.Lists.{Each, IsIn}

pub each_append : {X : Type 0} (P : X → Type 0) (xs ys : List X) → Each P xs → Each P ys → Each P (xs ++ ys)
each_append P [] ys h k = k
each_append P (x ∷ xs) ys h k = (h.0, each_append P xs ys h.1 k)

pub each_at : {A : Type 0} (P : A → Type 0) (xs : List A) (i : ℕ) (d : A) → Each P xs → i < length xs → P (get_or xs i d)
each_at P [] i d h lt = absurd (omega arith)
each_at P (x ∷ xs) zero d h lt = h.0
each_at P (x ∷ xs) (suc i) d h lt = each_at P xs i d h.1 (omega (arith, lt))

pub each_by : {A : Type 0} (P Q : A → Type 0) (xs : List A) → ((x : A) → P x → Q x) → Each P xs → Each Q xs
each_by P Q [] to h = tt
each_by P Q (x ∷ xs) to h = (to x h.0, each_by P Q xs to h.1)

pub each_from : {X : Type 0} (P : X → Type 0) (xs : List X) → ((x : X) → IsIn x xs → P x) → Each P xs
each_from P [] h = tt
each_from P (y ∷ ys) h = (h y (inl refl), each_from P ys (λ x i. h x (inr i)))

pub each_front : {X : Type 0} (P : X → Type 0) (xs : List X) (x : X) → Each P (xs ++ x ∷ []) → Each P xs × P x
each_front P [] x h = (tt, h.0)
each_front P (y ∷ xs) x h = let r = each_front P xs x h.1 in ((h.0, r.0), r.1)

pub each_got : {X : Type 0} (P : X → Type 0) (xs : List X) (n : ℕ) (x : X) → Each P xs → slice_get xs n ≡ Some x → P x
each_got P [] n x h e = absurd (cc)
each_got P (y ∷ xs) zero x h e = subst P (let z : y ≡ x = cc in z) h.0
each_got P (y ∷ xs) (suc n) x h e = each_got P xs n x h.1 e

pub each_in : {A : Type 0} (P : A → Type 0) (xs : List A) (x : A) → Each P xs → IsIn x xs → P x
each_in P [] x h i = absurd i
each_in P (y ∷ xs) x h i = elim i [ inl e ↦ subst P (sym e) h.0 | inr k ↦ each_in P xs x h.1 k ]

pub each_left : {X : Type 0} (P : X → Type 0) (xs ys : List X) → Each P (xs ++ ys) → Each P xs
each_left P [] ys h = tt
each_left P (x ∷ xs) ys h = (h.0, each_left P xs ys h.1)

pub each_map : {X Y : Type 0} (f : X → Y) (P : Y → Type 0) (xs : List X) → Each (λ x. P (f x)) xs → Each P (map f xs)
each_map f P [] h = tt
each_map f P (x ∷ xs) h = (h.0, each_map f P xs h.1)

pub each_member : {X : Type 0} (P : X → Type 0) (x : X) (xs : List X) → Each P xs → IsIn x xs → P x
each_member P x [] h i = absurd i
each_member P x (y ∷ xs) h (inl e) = subst P (sym e) h.0
each_member P x (y ∷ xs) h (inr i) = each_member P x xs h.1 i

pub each_more : {X : Type 0} (P : X → Type 0) (xs : List X) (x : X) → Each P xs → P x → Each P (xs ++ x ∷ [])
each_more P [] x e p = (p, tt)
each_more P (y ∷ ys) x e p = (e.0, each_more P ys x e.1 p)

pub each_take : {X : Type 0} (P : X → Type 0) (n : ℕ) (xs : List X) → Each P xs → Each P (take n xs)
each_take P zero xs h = tt
each_take P (suc n) [] h = tt
each_take P (suc n) (x ∷ xs) h = (h.0, each_take P n xs h.1)

pub each_to : {X : Type 0} (P Q : X → Type 0) (xs : List X) → Each P xs → ((x : X) → P x → Q x) → Each Q xs
each_to P Q [] h k = tt
each_to P Q (x ∷ xs) h k = (k x h.0, each_to P Q xs h.1 k)

pub each_weaker : {X : Type 0} (P Q : X → Type 0) → ((x : X) → P x → Q x) → (xs : List X) → Each P xs → Each Q xs
each_weaker P Q f [] h = tt
each_weaker P Q f (x ∷ xs) h = (f x h.0, each_weaker P Q f xs h.1)

pub holds_at : {X : Type 0} (P : X → Type 0) (xs : List X) (i : ℕ) (d : X) → i < length xs → Each P xs → P (get_or xs i d)
holds_at P [] i d lt h = absurd (omega arith)
holds_at P (x ∷ xs) zero d lt h = h.0
holds_at P (x ∷ xs) (suc i) d lt h = holds_at P xs i d (omega arith) h.1

pub member_holds : {X : Type 0} (P : X → Type 0) (x : X) (xs : List X) → IsIn x xs → Each P xs → P x
member_holds P x [] i e = absurd i
member_holds P x (y ∷ ys) (inl s) e = subst P (sym s) e.0
member_holds P x (y ∷ ys) (inr i) e = member_holds P x ys i e.1
