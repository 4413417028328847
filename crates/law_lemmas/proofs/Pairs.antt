-- Two lists that match element by element, and lists whose elements differ. Given on to the crates above.
use Rattle.std.proofs.Common.{List, Some, [], ap, inl, inr, length, refl, slice_get, subst, suc, sym, zero, ℕ, ◌++◌, ◌∷◌, ◌≡◌, ◌≢◌}
use Rattle.fare_law.specs.Lists.{AllDifferent, EachPair, IsIn, Matched}
use Rattle.law_lemmas.proofs.EachOne.{each_got, each_more}

pub differ_more : {X : Type 0} (xs : List X) (x : X) → AllDifferent xs → (IsIn x xs → ⊥) → AllDifferent (xs ++ x ∷ [])
differ_more [] x d n = (tt, tt)
differ_more (y ∷ ys) x d n = (each_more (λ z. y ≢ z) ys x d.0 (λ e. n (inl (sym e))), differ_more ys x d.1 (λ i. n (inr i)))

pub matched_from_left : {X Y : Type 0} (R : X → Y → Type 0) (xs : List X) (ys : List Y) (x : X) → Matched R xs ys → IsIn x xs → (y : Y) × IsIn y ys × R x y
matched_from_left R [] [] x h i = absurd i
matched_from_left R [] (v ∷ ys) x h i = absurd h
matched_from_left R (w ∷ xs) [] x h i = absurd h
matched_from_left R (w ∷ xs) (v ∷ ys) x h (inl e) = (v, inl refl, subst (λ z. R z v) (sym e) h.0)
matched_from_left R (w ∷ xs) (v ∷ ys) x h (inr i) = let r = matched_from_left R xs ys x h.1 i in (r.0, inr r.1, r.2)

pub matched_from_right : {X Y : Type 0} (R : X → Y → Type 0) (xs : List X) (ys : List Y) (y : Y) → Matched R xs ys → IsIn y ys → (x : X) × IsIn x xs × R x y
matched_from_right R [] [] y h i = absurd i
matched_from_right R [] (v ∷ ys) y h i = absurd h
matched_from_right R (x ∷ xs) [] y h i = absurd h
matched_from_right R (x ∷ xs) (v ∷ ys) y h (inl e) = (x, inl refl, subst (R x) (sym e) h.0)
matched_from_right R (x ∷ xs) (v ∷ ys) y h (inr i) = let r = matched_from_right R xs ys y h.1 i in (r.0, inr r.1, r.2)

pub matched_length : {X Y : Type 0} (R : X → Y → Type 0) (xs : List X) (ys : List Y) → Matched R xs ys → length xs ≡ length ys
matched_length R [] [] m = refl
matched_length R [] (z ∷ zs) m = absurd m
matched_length R (z ∷ zs) [] m = absurd m
matched_length R (z ∷ zs) (w ∷ ws) m = ap suc (matched_length R zs ws m.1)

pub matched_long : {X Y : Type 0} (R : X → Y → Type 0) (xs : List X) (ys : List Y) → Matched R xs ys → length ys ≡ length xs
matched_long R [] [] h = refl
matched_long R [] (y ∷ ys) h = absurd h
matched_long R (x ∷ xs) [] h = absurd h
matched_long R (x ∷ xs) (y ∷ ys) h = ap suc (matched_long R xs ys h.1)

pub matched_more : {X Y : Type 0} (R : X → Y → Type 0) (xs : List X) (ys : List Y) (x : X) (y : Y) → Matched R xs ys → R x y → Matched R (xs ++ x ∷ []) (ys ++ y ∷ [])
matched_more R [] [] x y m r = (r, tt)
matched_more R [] (z ∷ zs) x y m r = absurd m
matched_more R (z ∷ zs) [] x y m r = absurd m
matched_more R (z ∷ zs) (w ∷ ws) x y m r = (m.0, matched_more R zs ws x y m.1 r)

pub one_place : {X : Type 0} (xs : List X) (m n : ℕ) (x : X) → AllDifferent xs → slice_get xs m ≡ Some x → slice_get xs n ≡ Some x → m ≡ n
one_place [] m n x h e f = absurd (cc)
one_place (y ∷ xs) zero zero x h e f = refl
one_place (y ∷ xs) zero (suc n) x h e f = let same : y ≡ x = cc in absurd (each_got (λ z. y ≢ z) xs n x h.0 f same)
one_place (y ∷ xs) (suc m) zero x h e f = let same : y ≡ x = cc in absurd (each_got (λ z. y ≢ z) xs m x h.0 e same)
one_place (y ∷ xs) (suc m) (suc n) x h e f = ap suc (one_place xs m n x h.1 e f)

pub pairs_append : {X : Type 0} (R : X → X → Type 0) (xs ys : List X) → EachPair R xs → EachPair R ys → ((x y : X) → IsIn x xs → IsIn y ys → R x y) → EachPair R (xs ++ ys)
pairs_append R [] ys h k c = k
pairs_append R (x ∷ []) [] h k c = tt
pairs_append R (x ∷ []) (y ∷ ys) h k c = (c x y (inl refl) (inl refl), k)
pairs_append R (x ∷ z ∷ xs) ys h k c = (h.0, pairs_append R (z ∷ xs) ys h.1 k (λ a e i j. c a e (inr i) j))
