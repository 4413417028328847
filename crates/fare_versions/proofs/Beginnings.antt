-- Beginnings of one list, for `Front::begins`.
use Rattle.std.proofs.Common.{◌≡◌, ℕ, ◌≤◌, ◌<◌, Bool, true, false, nat_le, MatchBool, List, [], ◌∷◌, length, refl, sym, arith}
use Rattle.std.proofs.lemmas.Bool.Decides.{nat_tests}
use mathlib.Core.List.{IsPrefix as Precedes}
use Rattle.fare_law.specs.Lists.{IsPrefix}

-- of two beginnings of one list the shorter begins the longer
pub shorter_begins : {A : Type 0} (xs ys zs : List A) → IsPrefix xs zs → IsPrefix ys zs → length xs ≤ length ys → IsPrefix xs ys
shorter_begins [] ys zs p q le = (ys, refl)
shorter_begins (x ∷ xs) [] zs p q le = absurd (omega arith)
shorter_begins (x ∷ xs) (y ∷ ys) [] p q le = absurd (cc (p.1))
shorter_begins (x ∷ xs) (y ∷ ys) (z ∷ zs) p q le =
    let heads : x ≡ y = cc (p.1, q.1) in
    let rest = shorter_begins xs ys zs (p.0, cc (p.1)) (q.0, cc (q.1)) (omega arith) in
    (rest.0, cc (heads, rest.1))

-- a beginning as long as the whole is the whole
pub whole_beginning : {A : Type 0} (xs ys : List A) → IsPrefix xs ys → length ys ≤ length xs → xs ≡ ys
whole_beginning [] [] p le = refl
whole_beginning [] (y ∷ ys) p le = absurd (omega arith)
whole_beginning (x ∷ xs) [] p le = absurd (cc (p.1))
whole_beginning (x ∷ xs) (y ∷ ys) p le =
    let rest = whole_beginning xs ys (p.0, cc (p.1)) (omega arith) in cc (p.1, rest)

-- of two beginnings of one list, a test of their lengths tells which begins the other
pub either_begins : {A : Type 0} (xs ys zs : List A) (p q : ℕ) (t : Bool) → nat_le p q ≡ t → p ≡ length xs → q ≡ length ys → Precedes xs zs → Precedes ys zs
    → MatchBool t (IsPrefix xs ys) (IsPrefix ys xs × (length ys < length xs))
either_begins xs ys zs p q true e a b u v =
    let le : p ≤ q = grind (arith, nat_tests) in shorter_begins xs ys zs (u.0, sym u.1) (v.0, sym v.1) (omega arith)
either_begins xs ys zs p q false e a b u v =
    let lt : q < p = grind (arith, nat_tests) in
    (shorter_begins ys xs zs (v.0, sym v.1) (u.0, sym u.1) (omega arith), omega arith)
