-- What stands in a list at a number, and fronts of lists. Given on to the crates above.
use Rattle.std.proofs.Common.{List, None, Option, Some, [], add-one, ap, append-nil, append_assoc, ap₂, arith, drop, drop-cons, get_or, inl, inr, length, map, option_map, refl, replicate, slice_get, suc, sym, take, take-suc, zero, ℕ, ◌++◌, ◌+◌, ◌<◌, ◌∙◌, ◌∷◌, ◌≡◌, ◌≤◌, ◌⊎◌}
use Rattle.fare_law.specs.Lists.{IsPrefix}
use Rattle.law_lemmas.proofs.Numbers.{suc_is}
use Rattle.std.proofs.Math.Seq.{drop-cons, take-suc}
use Rattle.std.proofs.lemmas.List.{take-append-drop}
use Rattle.std.specs.List.{cons_option, filter_map}

pub all_zero : (n i : ℕ) → ◌≡◌ {A = ℕ} (get_or (replicate n 0) i 0) 0
all_zero zero i = refl
all_zero (suc n) zero = refl
all_zero (suc n) (suc i) = all_zero n i

pub append_none : (w : List ℕ) → w ++ [] ≡ w
append_none [] = refl
append_none (n ∷ w) = ap (λ z. n ∷ z) (append_none w)

pub front_at : {X : Type 0} (xs : List X) (i : ℕ) (d : X) → i < length xs → take (i + 1) xs ≡ take i xs ++ get_or xs i d ∷ []
front_at xs i d lt = ap (λ n. take n xs) (add-one i) ∙ take-suc xs i d lt

pub front_is : {X : Type 0} (xs : List X) (i : ℕ) (x : X) → i < length xs → x ≡ get_or xs i x → take (i + 1) xs ≡ take i xs ++ x ∷ []
front_is xs i x lt e = front_at xs i x lt ∙ ap (λ y. take i xs ++ y ∷ []) (sym e)

pub front_length : {X : Type 0} (xs : List X) (i : ℕ) → i < length xs → length (take i xs) ≡ i
front_length [] i lt = absurd (omega arith)
front_length (x ∷ xs) zero lt = refl
front_length (x ∷ xs) (suc i) lt = ap suc (front_length xs i (omega arith))

pub front_many : {X : Type 0} (k : ℕ) (xs : List X) → k ≤ length xs → length (take k xs) ≡ k
front_many zero xs h = refl
front_many (suc k) [] h = absurd (omega arith)
front_many (suc k) (x ∷ xs) h = ap suc (front_many k xs (omega arith))

pub front_read : {X : Type 0} (xs : List X) (i : ℕ) (d x : X) → i < length xs → x ≡ get_or xs i d → take (i + 1) xs ≡ take i xs ++ x ∷ []
front_read xs i d x lt e = ap (λ n. take n xs) (sym (suc_is i)) ∙ take-suc xs i d lt ∙ ap (λ y. take i xs ++ y ∷ []) (sym e)

pub get_here : {X : Type 0} (xs : List X) (i : ℕ) (x : X) → i < length xs → x ≡ get_or xs i x
    → slice_get xs i ≡ Some x
get_here [] i x h e = absurd (omega arith)
get_here (y ∷ ys) zero x h e = ap Some (sym e)
get_here (y ∷ ys) (suc i) x h e = get_here ys i x (omega arith) e

pub get_is : {X : Type 0} (xs : List X) (n : ℕ) (x d : X) → slice_get xs n ≡ Some x → get_or xs n d ≡ x
get_is [] n x d h = cc
get_is (y ∷ xs) zero x d h = cc
get_is (y ∷ xs) (suc n) x d h = get_is xs n x d h

pub got_is : {X : Type 0} (xs : List X) (n : ℕ) (d x : X) → slice_get xs n ≡ Some x → get_or xs n d ≡ x
got_is [] n d x e = absurd (cc)
got_is (y ∷ xs) zero d x e = cc
got_is (y ∷ xs) (suc n) d x e = got_is xs n d x e

pub got_last : {X : Type 0} (xs : List X) (x : X) → slice_get (xs ++ x ∷ []) (length xs) ≡ Some x
got_last [] x = refl
got_last (y ∷ xs) x = got_last xs x

pub got_left : {X : Type 0} (xs ys : List X) (n : ℕ) (x : X) → slice_get xs n ≡ Some x → slice_get (xs ++ ys) n ≡ Some x
got_left [] ys n x e = absurd (cc)
got_left (y ∷ xs) ys zero x e = e
got_left (y ∷ xs) ys (suc n) x e = got_left xs ys n x e

pub got_read : {X : Type 0} (xs : List X) (n : ℕ) (d : X) → n < length xs → slice_get xs n ≡ Some (get_or xs n d)
got_read [] n d h = absurd (omega arith)
got_read (y ∷ xs) zero d h = refl
got_read (y ∷ xs) (suc n) d h = got_read xs n d (omega arith)

pub got_same : {X : Type 0} (xs ys : List X) (n : ℕ) (d x y : X) → ys ≡ xs → y ≡ get_or ys n d → slice_get xs n ≡ Some x → y ≡ x
got_same xs ys n d x y e is got = is ∙ ap (λ zs. get_or zs n d) e ∙ got_is xs n d x got

pub got_within : {X : Type 0} (xs : List X) (n : ℕ) (x : X) → slice_get xs n ≡ Some x → n < length xs
got_within [] n x h = cc
got_within (y ∷ xs) zero x h = omega arith
got_within (y ∷ xs) (suc n) x h = omega (arith, got_within xs n x h)

pub head_same : {X : Type 0} (x y : X) (xs ys : List X) → x ∷ xs ≡ y ∷ ys → x ≡ y
head_same x y xs ys e = cc

pub length_middle : {X : Type 0} (before : List X) (x : X) (after : List X) → length before < length (before ++ x ∷ after)
length_middle [] x after = omega arith
length_middle (y ∷ before) x after = omega (arith, length_middle before x after)

pub length_more : {A : Type 0} (xs : List A) (x : A) (i : ℕ) → length xs ≤ i → length (xs ++ x ∷ []) ≤ i + 1
length_more [] x i h = omega arith
length_more (y ∷ xs) x zero h = absurd (omega (arith, h))
length_more (y ∷ xs) x (suc i) h = omega (arith, length_more xs x i (omega (arith, h)))

pub map_end : {X Y : Type 0} (f : X → Y) (xs : List X) (x : X) → map f (xs ++ x ∷ []) ≡ map f xs ++ f x ∷ []
map_end f [] x = refl
map_end f (y ∷ xs) x = ap (λ ys. f y ∷ ys) (map_end f xs x)

pub map_one : {Y Z : Type 0} (g : Y → Z) (o : Option Y) (ys : List Y) (zs : List Z) → zs ≡ map g ys → cons_option (option_map g o) zs ≡ map g (cons_option o ys)
map_one g None ys zs e = e
map_one g (Some y) ys zs e = ap (λ ws. g y ∷ ws) e

pub map_gathered : {X Y Z : Type 0} (g : Y → Z) (f : X → Option Y) (xs : List X) → filter_map (λ x. option_map g (f x)) xs ≡ map g (filter_map f xs)
map_gathered g f [] = refl
map_gathered g f (x ∷ xs) = map_one g (f x) (filter_map f xs) (filter_map (λ y. option_map g (f y)) xs) (map_gathered g f xs)

pub map_length : {X Y : Type 0} (f : X → Y) (xs : List X) → length (map f xs) ≡ length xs
map_length f [] = refl
map_length f (x ∷ xs) = ap suc (map_length f xs)

pub no_middle : {X : Type 0} (before : List X) (x : X) (after : List X) → [] ≡ before ++ x ∷ after → ⊥
no_middle before x after e = omega (arith, ap length e, length_middle before x after)

pub parts_same : (xs ys us vs : List ℕ) → length xs ≡ length ys → xs ++ us ≡ ys ++ vs → (xs ≡ ys) × (us ≡ vs)
parts_same [] [] us vs l e = (refl, e)
parts_same [] (y ∷ ys) us vs l e = absurd (omega arith)
parts_same (x ∷ xs) [] us vs l e = absurd (omega arith)
parts_same (x ∷ xs) (y ∷ ys) us vs l e =
    let h : x ≡ y = cc in
    let t : xs ++ us ≡ ys ++ vs = cc in
    let r = parts_same xs ys us vs (omega arith) t in
    (ap₂ (λ z zs. z ∷ zs) h r.0, r.1)

pub prefix_self : {X : Type 0} (xs : List X) → IsPrefix xs xs
prefix_self xs = ([], sym (append-nil xs))

pub prefix_trans : {X : Type 0} (xs ys zs : List X) → IsPrefix xs ys → IsPrefix ys zs → IsPrefix xs zs
prefix_trans xs ys zs h k = (h.0 ++ k.0, k.1 ∙ ap (λ l. l ++ k.0) h.1 ∙ append_assoc xs h.0 k.0)

pub read_got : {X : Type 0} (xs : List X) (n : ℕ) (d x : X) → n < length xs → x ≡ get_or xs n d → slice_get xs n ≡ Some x
read_got xs n d x lt e = got_read xs n d lt ∙ ap Some (sym e)

pub rest_at : {X : Type 0} (xs : List X) (i : ℕ) (d : X) → i < length xs → drop i xs ≡ get_or xs i d ∷ drop (i + 1) xs
rest_at xs i d l = rw (drop-cons xs i d l, add-one) refl

pub some_length : (ns : List ℕ) → (ns ≡ [] → ⊥) → 1 ≤ length ns
some_length [] h = absurd (h refl)
some_length (n ∷ ns) h = omega arith

pub split_is : {X : Type 0} (xs : List X) (i : ℕ) (d x : X) → i < length xs → x ≡ get_or xs i d → xs ≡ take i xs ++ x ∷ drop (i + 1) xs
split_is xs i d x lt e = sym (take-append-drop i xs) ∙ ap (λ ys. take i xs ++ ys) (drop-cons xs i d lt ∙ ap₂ (λ y n. y ∷ drop n xs) (sym e) (suc_is i))

pub split_last : {X : Type 0} (xs before after : List X) (x y : X) → xs ++ x ∷ [] ≡ before ++ y ∷ after → ((xs ≡ before) × (x ≡ y)) ⊎ ((rest : List X) × (xs ≡ before ++ y ∷ rest))
split_last [] [] after x y e = inl (refl, let h : x ≡ y = cc in h)
split_last [] (z ∷ zs) after x y e = absurd (no_middle zs y after (let h : [] ≡ zs ++ y ∷ after = cc in h))
split_last (w ∷ xs) [] after x y e = let h : w ≡ y = cc in inr (xs, ap (λ z. z ∷ xs) h)
split_last (w ∷ xs) (z ∷ zs) after x y e =
    let h : w ≡ z = cc in
    let t : xs ++ x ∷ [] ≡ zs ++ y ∷ after = cc in
    elim (split_last xs zs after x y t) [
      | inl s ↦ inl (ap₂ (λ v vs. v ∷ vs) h s.0, s.1)
      | inr s ↦ inr (s.0, ap₂ (λ v vs. v ∷ vs) h s.1)
    ]

pub tail_same : {X : Type 0} (x y : X) (xs ys : List X) → x ∷ xs ≡ y ∷ ys → xs ≡ ys
tail_same x y xs ys e = cc
