-- Places in an ascending list of derivations.
use Rattle.std.proofs.Common.{◌≡◌, ℕ, zero, suc, ◌<◌, List, [], ◌∷◌, sym, subst, inl, inr, arith}
use Rattle.std.proofs.lemmas.Bool.{cases_order}
use Rattle.fare_law.specs.Lists.{IsIn, EachPair}
use Rattle.best_k.specs.declared.lattice.Derivation.{Derivation}
use Rattle.best_k.specs.Derivations.{Under}
use Rattle.best_k.specs.Ranked.{Nth}
use Rattle.best_k.proofs.Places.{nth_in, nth_one}
use Rattle.best_k.proofs.Orders.{under_trans, under_never}

pub rest_ascending : (x : Derivation) (xs : List Derivation) → EachPair Under (x ∷ xs) → EachPair Under xs
rest_ascending x [] h = tt
rest_ascending x (y ∷ ys) h = h.1

pub head_under : (x : Derivation) (xs : List Derivation) (y : Derivation) → EachPair Under (x ∷ xs)
    → IsIn y xs → Under x y
head_under x [] y h i = absurd i
head_under x (z ∷ zs) y h (inl e) = subst (λ w. Under x w) (sym e) h.0
head_under x (z ∷ zs) y h (inr i) = under_trans x z y h.0 (head_under z zs y h.1 i)

pub nth_under : (xs : List Derivation) (i j : ℕ) (x y : Derivation) → EachPair Under xs → Nth xs i x
    → Nth xs j y → i < j → Under x y
nth_under [] i j x y up h k l = absurd h
nth_under (z ∷ zs) zero zero x y up h k l = absurd (omega arith)
nth_under (z ∷ zs) zero (suc j) x y up h k l = subst (λ w. Under w y) (sym h) (head_under z zs y up (nth_in zs j y k))
nth_under (z ∷ zs) (suc i) zero x y up h k l = absurd (omega arith)
nth_under (z ∷ zs) (suc i) (suc j) x y up h k l = nth_under zs i j x y (rest_ascending z zs up) h k (omega arith)

pub nth_same : (xs : List Derivation) (i j : ℕ) (x : Derivation) → EachPair Under xs → Nth xs i x → Nth xs j x
    → i ≡ j
nth_same xs i j x up h k =
    elim (cases_order i j) [
      | inl e ↦ e
      | inr o ↦ elim o [
        | inl l ↦ absurd (under_never x (nth_under xs i j x x up h k l))
        | inr l ↦ absurd (under_never x (nth_under xs j i x x up k h l))
      ]
    ]

pub nth_order : (xs : List Derivation) (i j : ℕ) (x y : Derivation) → EachPair Under xs → Nth xs i x
    → Nth xs j y → Under x y → i < j
nth_order xs i j x y up h k u =
    elim (cases_order i j) [
      | inl e ↦ absurd (under_never x (subst (λ w. Under x w) (nth_one xs i y x (subst (λ n. Nth xs n y) (sym e) k) h) u))
      | inr o ↦ elim o [
        | inl l ↦ l
        | inr l ↦ absurd (under_never x (under_trans x y x u (nth_under xs j i y x up k h l)))
      ]
    ]
