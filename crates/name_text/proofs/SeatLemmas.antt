-- Seats that were read are within their limits.
use Rattle.std.proofs.Common.{◌≡◌, ◌<◌, ◌≤◌, ◌-◌, ℕ, zero, suc, true, List, [], ◌∷◌, get_or, set, replicate, refl, ◌∙◌, arith}
use Rattle.std.proofs.Math.ListN.{length-set}
use Rattle.std.specs.Char.{is_ascii_digit, is_ascii_uppercase}
use Rattle.std.proofs.lemmas.Bool.Decides.{nat_tests}
use Rattle.fare_law.specs.Lists.{Each}
use Rattle.fare_law.specs.Limits.{AreSeats}
use Rattle.law_lemmas.proofs.Lists.{all_zero}

few_zeros : (n : ℕ) → Each (λ k. k ≤ 9) (replicate {A = ℕ} n 0)
few_zeros zero = tt
few_zeros (suc n) = (omega arith, few_zeros n)

pub no_seats : AreSeats (replicate 32 0)
no_seats = record { many = refl; few = few_zeros 32; none = λ class h. all_zero 32 class }

few_set : (seats : List ℕ) (i n : ℕ) → n ≤ 9 → Each (λ k. k ≤ 9) seats → Each (λ k. k ≤ 9) (set seats i n)
few_set [] i n l h = tt
few_set (s ∷ seats) zero n l h = (l, h.1)
few_set (s ∷ seats) (suc i) n l h = (h.0, few_set seats i n l h.1)

upper : (c : ℕ) → is_ascii_uppercase c ≡ true → c - 65 ≤ 25
upper c e = grind (arith, nat_tests)

digit : (c : ℕ) → is_ascii_digit c ≡ true → c - 48 ≤ 9
digit c e = grind (arith, nat_tests)

other_class : (seats : List ℕ) (i n class : ℕ) → i < class → get_or (set seats i n) class 0 ≡ get_or seats class 0
other_class [] i n class l = refl
other_class (s ∷ seats) i n zero l = absurd (omega (arith, l))
other_class (s ∷ seats) zero n (suc class) l = refl
other_class (s ∷ seats) (suc i) n (suc class) l = other_class seats i n class (omega (arith, l))

pub one_more_class : (seats : List ℕ) (c d : ℕ) → AreSeats seats → is_ascii_uppercase c ≡ true → is_ascii_digit d ≡ true → AreSeats (set seats (c - 65) (d - 48))
one_more_class seats c d h u e = record {
  many = length-set seats (c - 65) (d - 48) ∙ h.many;
  few = few_set seats (c - 65) (d - 48) (digit d e) h.few;
  none = λ class l. other_class seats (c - 65) (d - 48) class (let k = upper c u in omega (arith, l)) ∙ h.none class l;
}

pub ruleset seat_rules = (no_seats, one_more_class)
