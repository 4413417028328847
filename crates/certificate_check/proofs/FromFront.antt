-- Lists that are read from the front, element by element: all are right so far, or one is the first that is wrong.
use Rattle.std.proofs.Common.{◌≡◌, ℕ, zero, suc, ◌+◌, ◌≤◌, ◌<◌, List, [], ◌∷◌, ◌++◌, length, take, drop, get_or, sym, refl, ap, subst, inl, inr, arith}
use Rattle.certificate.specs.InOrder.{AllRight, FirstWrong}
use Rattle.law_lemmas.proofs.Lists.{front_is, split_last}

middle_longer : {X : Type 0} (before : List X) (x : X) (after : List X) → 1 ≤ length (before ++ x ∷ after)
middle_longer [] x after = omega arith
middle_longer (y ∷ before) x after = omega arith

pub all_push : {X : Type 0} (Right : List X → X → Type 0) (xs : List X) (x : X) → AllRight Right xs → Right xs x → AllRight Right (xs ++ x ∷ [])
all_push Right xs x all r before y after e = elim (split_last xs before after x y e) [
  | inl s ↦ subst (λ z. Right z y) s.0 (subst (Right xs) s.1 r)
  | inr s ↦ all before y s.0 s.1
]

pub split_at : {X : Type 0} (xs : List X) (i : ℕ) (x : X) → i < length xs → x ≡ get_or xs i x → xs ≡ take i xs ++ x ∷ drop (suc i) xs
split_at [] i x h e = absurd (omega (arith, h))
split_at (y ∷ xs) zero x h e = ap (λ z. z ∷ xs) (sym e)
split_at (y ∷ xs) (suc i) x h e = ap (λ zs. y ∷ zs) (split_at xs i x (omega (arith, h)) e)

pub take_length : {X : Type 0} (xs : List X) (i : ℕ) → i ≤ length xs → length (take i xs) ≡ i
take_length xs zero h = refl
take_length [] (suc i) h = absurd (omega (arith, h))
take_length (y ∷ xs) (suc i) h = ap suc (take_length xs i (omega (arith, h)))

pub take_whole : {X : Type 0} (xs : List X) (i : ℕ) → length xs ≤ i → take i xs ≡ xs
take_whole [] zero h = refl
take_whole [] (suc i) h = refl
take_whole (y ∷ xs) zero h = absurd (omega (arith, h))
take_whole (y ∷ xs) (suc i) h = ap (λ zs. y ∷ zs) (take_whole xs i (omega (arith, h)))

-- one more is right
pub all_next : {X : Type 0} (Right : List X → X → Type 0) (xs : List X) (i : ℕ) (x : X) → i < length xs → x ≡ get_or xs i x → AllRight Right (take i xs) → Right (take i xs) x → AllRight Right (take (i + 1) xs)
all_next Right xs i x h e all r = subst (AllRight Right) (sym (front_is xs i x h e)) (all_push Right (take i xs) x all r)

-- all are right
pub all_done : {X : Type 0} (Right : List X → X → Type 0) (xs : List X) (i : ℕ) → length xs ≤ i → AllRight Right (take i xs) → AllRight Right xs
all_done Right xs i h all = subst (AllRight Right) (take_whole xs i h) all

-- this is the first that is wrong
pub wrong_at : {X : Type 0} (Right : List X → X → Type 0) (xs : List X) (i : ℕ) (x : X) → i < length xs → x ≡ get_or xs i x → AllRight Right (take i xs) → (Right (take i xs) x → ⊥) → FirstWrong Right xs (i + 1)
wrong_at Right xs i x h e all denied = record {
  before = take i xs;
  wrong = x;
  after = drop (suc i) xs;
  whole = split_at xs i x h e;
  counted = let l = take_length xs i (omega (arith, h)) in omega (arith, l);
  earlier = all;
  fails = denied;
}
