-- Classes of seats as bits of a number.
use Rattle.std.proofs.Common.{◌≡◌, ◌≢◌, ◌⊎◌, ℕ, zero, suc, ◌*◌, ◌^◌, ◌<◌, max, IsBitSet, bit_and, bit_or, refl, sym, ap, ap₂, ◌∙◌, inl, inr, arith}
use Rattle.std.specs.Int.{bit_at}
use Rattle.std.proofs.lemmas.Bool.Decides.{eqb_tells}
use Rattle.std.proofs.lemmas.Nat.Bits.{and_pow, bit_at-lt, bit_at_or, bit_at-pow_other, bit_at-pow_same, bit_at-zero}
use Rattle.fare_groups.proofs.Bits.{both_set}
use Rattle.law_lemmas.proofs.Numbers.{times_zero}
use Rattle.fare_ends.specs.Legs.{AreAmong}

pub zero_or_not : (n : ℕ) → (n ≡ 0) ⊎ (n ≢ 0)
zero_or_not n = elim (eqb_tells n 0) [ inl y ↦ inl y.1 | inr n ↦ inr n.1 ]

pub same_or_not : (m n : ℕ) → (m ≡ n) ⊎ (m ≢ n)
same_or_not m n = elim (eqb_tells m n) [ inl y ↦ inl y.1 | inr n ↦ inr n.1 ]

two : (b : ℕ) → b < 2 → (◌≡◌ {A = ℕ} b 0) ⊎ (◌≡◌ {A = ℕ} b 1)
two zero h = inl refl
two (suc zero) h = inr refl
two (suc (suc n)) h = absurd (omega arith)

-- a bit that is set is 1, and one that is 1 is set
set_one : (n k : ℕ) → IsBitSet n k → bit_at n k ≡ 1
set_one n k h = elim (two (bit_at n k) (bit_at-lt n k)) [ inl e ↦ absurd (h (and_pow n k ∙ ap (λ b. b * 2 ^ k) e ∙ times_zero (2 ^ k))) | inr e ↦ e ]

one_set : (n k : ℕ) → bit_at n k ≡ 1 → IsBitSet n k
one_set n k e z = clash (2 ^ k) (sym once ∙ sym (and_pow n k ∙ ap (λ b. b * 2 ^ k) e) ∙ z) (bit_at-pow_same k)
  where
    once : 1 * 2 ^ k ≡ 2 ^ k
    once = omega arith

    clash : (m : ℕ) → m ≡ 0 → bit_at m k ≡ 1 → ⊥
    clash m e a = let y : bit_at m k ≡ 0 = ap (λ x. bit_at x k) e ∙ bit_at-zero k in absurd (omega (arith, y, a))

-- no class is among none
pub none_set : (k : ℕ) → IsBitSet 0 k → ⊥
none_set k h = let one = set_one 0 k h in let y = bit_at-zero k in absurd (omega (arith, one, y))

-- a class is the one class of its own set
pub own_class : (k : ℕ) → IsBitSet (2 ^ k) k
own_class k = one_set (2 ^ k) k (bit_at-pow_same k)

pub one_class : (c k : ℕ) → IsBitSet (2 ^ c) k → k ≡ c
one_class c k h = elim (same_or_not k c) [ inl e ↦ e | inr ne ↦ let one = set_one (2 ^ c) k h in let y = bit_at-pow_other c k ne in absurd (omega (arith, one, y)) ]

-- a class of either is one of the union
max_one_left : (a b : ℕ) → a ≡ 1 → b < 2 → max a b ≡ 1
max_one_left a b e h = elim (two b h) [ inl z ↦ ap₂ (λ x y. max x y) e z | inr o ↦ ap₂ (λ x y. max x y) e o ]

max_one_right : (a b : ℕ) → b ≡ 1 → a < 2 → max a b ≡ 1
max_one_right a b e h = elim (two a h) [ inl z ↦ ap₂ (λ x y. max x y) z e | inr o ↦ ap₂ (λ x y. max x y) o e ]

pub left_set : (a b k : ℕ) → IsBitSet a k → IsBitSet (bit_or a b) k
left_set a b k h = one_set (bit_or a b) k (bit_at_or a b k ∙ max_one_left (bit_at a k) (bit_at b k) (set_one a k h) (bit_at-lt b k))

pub right_set : (a b k : ℕ) → IsBitSet b k → IsBitSet (bit_or a b) k
right_set a b k h = one_set (bit_or a b) k (bit_at_or a b k ∙ max_one_right (bit_at a k) (bit_at b k) (set_one b k h) (bit_at-lt a k))

-- and no other is
pub either_set : (a b k : ℕ) → IsBitSet (bit_or a b) k → IsBitSet a k ⊎ IsBitSet b k
either_set a b k h = elim (two (bit_at a k) (bit_at-lt a k)) [
  | inr e ↦ inl (one_set a k e)
  | inl e ↦ elim (two (bit_at b k) (bit_at-lt b k)) [
    | inr f ↦ inr (one_set b k f)
    | inl f ↦
        let one = set_one (bit_or a b) k h in
        let y : bit_at (bit_or a b) k ≡ 0 = bit_at_or a b k ∙ ap₂ (λ x y. max x y) e f in
        absurd (omega (arith, one, y))
  ]
]

pub none_among : (a : ℕ) → AreAmong 0 a
none_among a k lt h = absurd (none_set k h)

pub among_first : (a b c : ℕ) → AreAmong a b → AreAmong a (bit_or b c)
among_first a b c h k lt s = left_set b c k (h k lt s)

pub among_second : (a b c : ℕ) → AreAmong a c → AreAmong a (bit_or b c)
among_second a b c h k lt s = right_set b c k (h k lt s)

pub both_among_first : (a b : ℕ) → AreAmong (bit_and a b) a
both_among_first a b k lt s = ((both_set a b k).0 s).0

pub both_among_second : (a b : ℕ) → AreAmong (bit_and a b) b
both_among_second a b k lt s = ((both_set a b k).0 s).1
