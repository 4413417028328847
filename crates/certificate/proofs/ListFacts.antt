-- Lists whose elements are right after those before them, element by element and pair by pair. This file is given on to the crates above.
use Rattle.std.proofs.Common.{◌≡◌, ℕ, suc, ◌+◌, ◌≤◌, ◌<◌, List, [], ◌∷◌, ◌++◌, length, map, sym, refl, ap, subst, inl, inr, arith}
use Rattle.certificate.specs.InOrder.{AllRight, IfLast}
use Rattle.fare_law.specs.Lists.{Each, EachPair, IsIn, Matched, OnLast}
use Rattle.law_lemmas.proofs.Members.{in_middle}

pub each_in : {X : Type 0} (P : X → Type 0) (xs : List X) → Each P xs → (x : X) → IsIn x xs → P x
each_in P [] h x i = absurd i
each_in P (y ∷ xs) h x (inl e) = subst P (sym e) h.0
each_in P (y ∷ xs) h x (inr i) = each_in P xs h.1 x i

pub each_last : {X : Type 0} (P : X → Type 0) (xs : List X) → 1 ≤ length xs → Each P xs → OnLast P xs
each_last P [] le h = absurd (omega arith)
each_last P (x ∷ []) le h = h.0
each_last P (x ∷ y ∷ xs) le h = each_last P (y ∷ xs) (omega arith) h.1

-- from the front: each is right after those before it

pub all_each : {X : Type 0} (Right : List X → X → Type 0) (P : X → Type 0) → ((before : List X) (x : X) → Right before x → P x) → (xs : List X) → AllRight Right xs → Each P xs
all_each Right P f [] h = tt
all_each Right P f (x ∷ xs) h =
    (f [] x (h [] x xs refl), all_each (λ before y. Right (x ∷ before) y) P (λ before y r. f (x ∷ before) y r) xs (λ before y after e. h (x ∷ before) y after (ap (λ z. x ∷ z) e)))

last_rest : {X : Type 0} (P : X → Type 0) (x : X) (xs : List X) → IfLast P (x ∷ xs) → IfLast P xs
last_rest P x [] h = tt
last_rest P x (y ∷ ys) h = h

pub all_pairs : {X : Type 0} (Right : List X → X → Type 0) (R : X → X → Type 0) → ((before : List X) (x : X) → Right before x → IfLast (λ l. R l x) before) → (xs : List X) → AllRight Right xs → EachPair R xs
all_pairs Right R f [] h = tt
all_pairs Right R f (x ∷ []) h = tt
all_pairs Right R f (x ∷ y ∷ ys) h =
    (f (x ∷ []) y (h (x ∷ []) y ys refl), all_pairs (λ before z. Right (x ∷ before) z) R (λ before z r. last_rest (λ l. R l z) x before (f (x ∷ before) z r)) (y ∷ ys) (λ before z after e. h (x ∷ before) z after (ap (λ w. x ∷ w) e)))

pub all_few : {X : Type 0} (Right : List X → X → Type 0) (k n : ℕ) → ((before : List X) (x : X) → Right before x → n + length before < k) → (xs : List X) → AllRight Right xs → n ≤ k → n + length xs ≤ k
all_few Right k n f [] h le = omega arith
all_few Right k n f (x ∷ xs) h le =
    let first = f [] x (h [] x xs refl) in
    let rest = all_few (λ before y. Right (x ∷ before) y) k (suc n) (λ before y r. omega (arith, f (x ∷ before) y r)) xs (λ before y after e. h (x ∷ before) y after (ap (λ z. x ∷ z) e)) (omega (arith, first)) in
    omega (arith, rest)

-- from element to element: what is before one

pub is_in : {X : Type 0} (xs before : List X) (x : X) (after : List X) → xs ≡ before ++ x ∷ after → IsIn x xs
is_in xs before x after e = subst (λ z. IsIn x z) (sym e) (in_middle before x after)

last_of_pairs : {X : Type 0} (R : X → X → Type 0) (before : List X) (x : X) (after : List X) → EachPair R (before ++ x ∷ after) → IfLast (λ l. R l x) before
last_of_pairs R [] x after h = tt
last_of_pairs R (y ∷ []) x after h = h.0
last_of_pairs R (y ∷ z ∷ zs) x after h = last_of_pairs R (z ∷ zs) x after h.1

pub pair_last : {X : Type 0} (R : X → X → Type 0) (xs before : List X) (x : X) (after : List X) → EachPair R xs → xs ≡ before ++ x ∷ after → IfLast (λ l. R l x) before
pair_last R xs before x after h e = last_of_pairs R before x after (subst (EachPair R) e h)

-- lists that match

pub matched_some : {X Y : Type 0} (R : X → Y → Type 0) (xs : List X) → Each (λ x. (y : Y) × R x y) xs → (ys : List Y) × Matched R xs ys
matched_some R [] h = ([], tt)
matched_some R (x ∷ xs) h = let r = matched_some R xs h.1 in (h.0.0 ∷ r.0, (h.0.1, r.1))

pub matched_right : {X Y : Type 0} (R : X → Y → Type 0) (xs : List X) (ys : List Y) → Matched R xs ys → (x : X) → IsIn x xs → (y : Y) × IsIn y ys × R x y
matched_right R [] ys m x i = absurd i
matched_right R (z ∷ xs) [] m x i = absurd m
matched_right R (z ∷ xs) (y ∷ ys) m x (inl e) = (y, inl refl, subst (λ w. R w y) (sym e) m.0)
matched_right R (z ∷ xs) (y ∷ ys) m x (inr i) = let r = matched_right R xs ys m.1 x i in (r.0, inr r.1, r.2)

pub matched_left : {X Y : Type 0} (R : X → Y → Type 0) (xs : List X) (ys : List Y) → Matched R xs ys → (y : Y) → IsIn y ys → (x : X) × IsIn x xs × R x y
matched_left R [] [] m y i = absurd i
matched_left R [] (z ∷ ys) m y i = absurd m
matched_left R (x ∷ xs) [] m y i = absurd m
matched_left R (x ∷ xs) (z ∷ ys) m y (inl e) = (x, inl refl, subst (R x) (sym e) m.0)
matched_left R (x ∷ xs) (z ∷ ys) m y (inr i) = let r = matched_left R xs ys m.1 y i in (r.0, inr r.1, r.2)

pub matched_each : {X Y : Type 0} (R : X → Y → Type 0) (P : Y → Type 0) → ((x : X) (y : Y) → R x y → P y) → (xs : List X) (ys : List Y) → Matched R xs ys → Each P ys
matched_each R P f [] [] m = tt
matched_each R P f [] (y ∷ ys) m = absurd m
matched_each R P f (x ∷ xs) [] m = absurd m
matched_each R P f (x ∷ xs) (y ∷ ys) m = (f x y m.0, matched_each R P f xs ys m.1)

-- what holds of each of the one list holds of each of the other
pub matched_both : {X Y : Type 0} (R : X → Y → Type 0) (P : X → Type 0) (Q : Y → Type 0) → ((x : X) (y : Y) → R x y → P x → Q y) → (xs : List X) (ys : List Y) → Matched R xs ys → Each P xs → Each Q ys
matched_both R P Q f [] [] m h = tt
matched_both R P Q f [] (y ∷ ys) m h = absurd m
matched_both R P Q f (x ∷ xs) [] m h = absurd m
matched_both R P Q f (x ∷ xs) (y ∷ ys) m h = (f x y m.0 h.0, matched_both R P Q f xs ys m.1 h.1)

pub matched_back : {X Y : Type 0} (R : X → Y → Type 0) (P : X → Type 0) (Q : Y → Type 0) → ((x : X) (y : Y) → R x y → Q y → P x) → (xs : List X) (ys : List Y) → Matched R xs ys → Each Q ys → Each P xs
matched_back R P Q f [] [] m h = tt
matched_back R P Q f [] (y ∷ ys) m h = absurd m
matched_back R P Q f (x ∷ xs) [] m h = absurd m
matched_back R P Q f (x ∷ xs) (y ∷ ys) m h = (f x y m.0 h.0, matched_back R P Q f xs ys m.1 h.1)

pub matched_pairs : {X Y : Type 0} (R : X → Y → Type 0) (P : X → X → Type 0) (Q : Y → Y → Type 0) → ((x x' : X) (y y' : Y) → R x y → R x' y' → P x x' → Q y y') → (xs : List X) (ys : List Y) → Matched R xs ys → EachPair P xs → EachPair Q ys
matched_pairs R P Q f [] [] m h = tt
matched_pairs R P Q f [] (y ∷ ys) m h = absurd m
matched_pairs R P Q f (x ∷ xs) [] m h = absurd m
matched_pairs R P Q f (x ∷ []) (y ∷ []) m h = tt
matched_pairs R P Q f (x ∷ []) (y ∷ y' ∷ ys) m h = absurd m.1
matched_pairs R P Q f (x ∷ x' ∷ xs) (y ∷ []) m h = absurd m.1
matched_pairs R P Q f (x ∷ x' ∷ xs) (y ∷ y' ∷ ys) m h = (f x x' y y' m.0 m.1.0 h.0, matched_pairs R P Q f (x' ∷ xs) (y' ∷ ys) m.1 h.1)

pub matched_turn : {X Y : Type 0} (R : X → Y → Type 0) (xs : List X) (ys : List Y) → Matched R xs ys → Matched (λ y x. R x y) ys xs
matched_turn R [] [] m = tt
matched_turn R [] (y ∷ ys) m = absurd m
matched_turn R (x ∷ xs) [] m = absurd m
matched_turn R (x ∷ xs) (y ∷ ys) m = (m.0, matched_turn R xs ys m.1)

-- lists of what a function gives

pub in_map : {X Y : Type 0} (f : X → Y) (xs : List X) (y : Y) → IsIn y (map f xs) → (x : X) × IsIn x xs × (f x ≡ y)
in_map f [] y i = absurd i
in_map f (x ∷ xs) y (inl e) = (x, inl refl, sym e)
in_map f (x ∷ xs) y (inr i) = let r = in_map f xs y i in (r.0, inr r.1, r.2)

pub map_in : {X Y : Type 0} (f : X → Y) (xs : List X) (x : X) → IsIn x xs → IsIn (f x) (map f xs)
map_in f [] x i = absurd i
map_in f (y ∷ xs) x (inl e) = inl (ap f e)
map_in f (y ∷ xs) x (inr i) = inr (map_in f xs x i)

pub map_pairs : {X Y : Type 0} (f : X → Y) (R : Y → Y → Type 0) (xs : List X) → EachPair R (map f xs) → EachPair (λ x y. R (f x) (f y)) xs
map_pairs f R [] h = tt
map_pairs f R (x ∷ []) h = tt
map_pairs f R (x ∷ y ∷ ys) h = (h.0, map_pairs f R (y ∷ ys) h.1)

pub pairs_map : {X Y : Type 0} (f : X → Y) (R : Y → Y → Type 0) (xs : List X) → EachPair (λ x y. R (f x) (f y)) xs → EachPair R (map f xs)
pairs_map f R [] h = tt
pairs_map f R (x ∷ []) h = tt
pairs_map f R (x ∷ y ∷ ys) h = (h.0, pairs_map f R (y ∷ ys) h.1)

pub matched_map : {X Y Z : Type 0} (f : X → Y) (R : Y → Z → Type 0) (xs : List X) (zs : List Z) → Matched R (map f xs) zs → Matched (λ x z. R (f x) z) xs zs
matched_map f R [] [] m = tt
matched_map f R [] (z ∷ zs) m = absurd m
matched_map f R (x ∷ xs) [] m = absurd m
matched_map f R (x ∷ xs) (z ∷ zs) m = (m.0, matched_map f R xs zs m.1)
