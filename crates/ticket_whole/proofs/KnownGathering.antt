-- Lists that are gathered item by item.
use Rattle.std.proofs.Common.{◌≡◌, ◌<◌, ◌≤◌, ◌+◌, ℕ, zero, suc, List, [], ◌∷◌, ◌++◌, length, drop, get_or, refl, ap, sym, ◌∙◌, Option, Some, None, append_assoc, append-nil, map, Bool, true, false, cond}
use Rattle.std.specs.List.{filter, filter_map, cons_option}
use Rattle.std.proofs.lemmas.List.{drop_all}
use Rattle.fare_law.specs.Lists.{Each}
use Rattle.law_lemmas.proofs.EachOne.{each_at, each_more}
use Rattle.law_lemmas.proofs.Lists.{rest_at}

pub gather_more : {X Y : Type 0} (f : X → Option Y) (found : List Y) (y : Y) (xs : List X) (i : ℕ) (d : X) → i < length xs → f (get_or xs i d) ≡ Some y
    → found ++ filter_map f (drop i xs) ≡ filter_map f xs → (found ++ y ∷ []) ++ filter_map f (drop (i + 1) xs) ≡ filter_map f xs
gather_more f found y xs i d l e h =
    append_assoc found (y ∷ []) (filter_map f (drop (i + 1) xs))
    ∙ ap (λ o. found ++ cons_option o (filter_map f (drop (i + 1) xs))) (sym e)
    ∙ ap (λ zs. found ++ filter_map f zs) (sym (rest_at xs i d l)) ∙ h

pub gather_skip : {X Y : Type 0} (f : X → Option Y) (found : List Y) (xs : List X) (i : ℕ) (d : X) → i < length xs → f (get_or xs i d) ≡ None
    → found ++ filter_map f (drop i xs) ≡ filter_map f xs → found ++ filter_map f (drop (i + 1) xs) ≡ filter_map f xs
gather_skip f found xs i d l e h =
    ap (λ o. found ++ cons_option o (filter_map f (drop (i + 1) xs))) (sym e)
    ∙ ap (λ zs. found ++ filter_map f zs) (sym (rest_at xs i d l)) ∙ h

pub gather_all : {X Y : Type 0} (f : X → Option Y) (found : List Y) (xs : List X) (i : ℕ) → length xs ≤ i
    → found ++ filter_map f (drop i xs) ≡ filter_map f xs → found ≡ filter_map f xs
gather_all f found xs i l h = sym (append-nil found) ∙ ap (λ zs. found ++ filter_map f zs) (sym (drop_all i xs l)) ∙ h

pub each_drop : {A : Type 0} (P : A → Type 0) (n : ℕ) (xs : List A) → Each P xs → Each P (drop n xs)
each_drop P zero xs h = h
each_drop P (suc n) [] h = tt
each_drop P (suc n) (x ∷ xs) h = each_drop P n xs h.1

each_cond : {A : Type 0} (P : A → Type 0) (t : Bool) (x : A) (xs : List A) → P x → Each P xs → Each P (cond t (x ∷ xs) xs)
each_cond P true x xs p h = (p, h)
each_cond P false x xs p h = h

pub each_filter : {A : Type 0} (P : A → Type 0) (t : A → Bool) (xs : List A) → Each P xs → Each P (filter t xs)
each_filter P t [] h = tt
each_filter P t (x ∷ xs) h = each_cond P (t x) x (filter t xs) h.0 (each_filter P t xs h.1)

filter_one : {X Y : Type 0} (f : X → Y) (t : Bool) (x : X) (xs : List X) (ys : List Y) → ys ≡ map f xs → cond t (f x ∷ ys) ys ≡ map f (cond t (x ∷ xs) xs)
filter_one f true x xs ys e = ap (λ zs. f x ∷ zs) e
filter_one f false x xs ys e = e

pub filter_mapped : {X Y : Type 0} (f : X → Y) (t : Y → Bool) (xs : List X) → filter t (map f xs) ≡ map f (filter (λ x. t (f x)) xs)
filter_mapped f t [] = refl
filter_mapped f t (x ∷ xs) = filter_one f (t (f x)) x (filter (λ y. t (f y)) xs) (filter t (map f xs)) (filter_mapped f t xs)

pub ruleset gather_steps = (gather_more, gather_skip, gather_all, each_more, each_at)
