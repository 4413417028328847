-- Lists that are gathered item by item.
use Rattle.std.proofs.Common.{◌≡◌, ◌<◌, ◌≤◌, ◌+◌, ℕ, List, [], ◌∷◌, ◌++◌, length, drop, get_or, ap, sym, ◌∙◌, Option, Some, None, append_assoc, append-nil}
use Rattle.std.specs.List.{filter_map, flat_map, cons_option}
use Rattle.std.proofs.lemmas.List.{drop_all}
use Rattle.law_lemmas.proofs.Lists.{rest_at}

pub gather_more : {X Y : Type 0} (f : X → Option Y) (found all : List Y) (y : Y) (xs : List X) (i : ℕ) (d : X) → i < length xs → f (get_or xs i d) ≡ Some y
    → found ++ filter_map f (drop i xs) ≡ all → (found ++ y ∷ []) ++ filter_map f (drop (i + 1) xs) ≡ all
gather_more f found all y xs i d l e h =
    append_assoc found (y ∷ []) (filter_map f (drop (i + 1) xs))
    ∙ ap (λ o. found ++ cons_option o (filter_map f (drop (i + 1) xs))) (sym e)
    ∙ ap (λ zs. found ++ filter_map f zs) (sym (rest_at xs i d l)) ∙ h

pub gather_skip : {X Y : Type 0} (f : X → Option Y) (found all : List Y) (xs : List X) (i : ℕ) (d : X) → i < length xs → f (get_or xs i d) ≡ None
    → found ++ filter_map f (drop i xs) ≡ all → found ++ filter_map f (drop (i + 1) xs) ≡ all
gather_skip f found all xs i d l e h =
    ap (λ o. found ++ cons_option o (filter_map f (drop (i + 1) xs))) (sym e)
    ∙ ap (λ zs. found ++ filter_map f zs) (sym (rest_at xs i d l)) ∙ h

pub gather_all : {X Y : Type 0} (f : X → Option Y) (found all : List Y) (xs : List X) (i : ℕ) → length xs ≤ i
    → found ++ filter_map f (drop i xs) ≡ all → found ≡ all
gather_all f found all xs i l h = sym (append-nil found) ∙ ap (λ zs. found ++ filter_map f zs) (sym (drop_all i xs l)) ∙ h

pub join_more : {X Y : Type 0} (f : X → List Y) (found all : List Y) (xs : List X) (i : ℕ) (d : X) → i < length xs
    → found ++ flat_map f (drop i xs) ≡ all → (found ++ f (get_or xs i d)) ++ flat_map f (drop (i + 1) xs) ≡ all
join_more f found all xs i d l h =
    append_assoc found (f (get_or xs i d)) (flat_map f (drop (i + 1) xs)) ∙ ap (λ zs. found ++ flat_map f zs) (sym (rest_at xs i d l)) ∙ h
