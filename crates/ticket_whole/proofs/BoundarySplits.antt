-- Lists split at a place, and labels at each boundary.
use Rattle.std.proofs.Common.{◌≡◌, ◌<◌, ◌∙◌, ℕ, List, [], ◌∷◌, ◌++◌, length, take, drop, refl, ap, sym, subst}
use Rattle.fare_law.specs.Lawful.{AtMostTwoStraddle}
use Rattle.ticket_whole.specs.Boundaries.{AtMostTwo}
use Rattle.law_lemmas.proofs.Lists.{length_middle}

pub front_is : {X : Type 0} (before after : List X) → take (length before) (before ++ after) ≡ before
front_is [] after = refl
front_is (x ∷ before) after = ap (λ xs. x ∷ xs) (front_is before after)

pub back_is : {X : Type 0} (before after : List X) → drop (length before) (before ++ after) ≡ after
back_is [] after = refl
back_is (x ∷ before) after = back_is before after

pub split_below : {X : Type 0} (xs before : List X) (x : X) (after : List X) → xs ≡ before ++ x ∷ after → length before < length xs
split_below xs before x after e = subst (λ ys. length before < length ys) (sym e) (length_middle before x after)

-- at most two labels straddle where no three do at each boundary before the end
pub straddle_told : (ls : List ℕ) → ((n : ℕ) → n < length ls → AtMostTwo (take n ls) (drop n ls)) → AtMostTwoStraddle ls
straddle_told ls h before [] e u v w x y a b c = absurd (cc)
straddle_told ls h before (l ∷ after) e u v w x y a b c =
    let few = h (length before) (split_below ls before l after (sym e)) in
    let front : take (length before) ls ≡ before = ap (take (length before)) (sym e) ∙ front_is before (l ∷ after) in
    let back : drop (length before) ls ≡ l ∷ after = ap (drop (length before)) (sym e) ∙ back_is before (l ∷ after) in
    (subst (λ ks. AtMostTwo before ks) back (subst (λ ks. AtMostTwo ks (drop (length before) ls)) front few)) u v w x y a b c
