-- What the tests of a text's reading let through: for the laws on dates, times and offsets.
use Rattle.std.proofs.Common.{◌≡◌, ℕ, ◌≤◌, nat_le, ◌==◌, ◌&&◌, Bool, true, false, refl, arith, Some, None, if◌then◌else◌}
use Rattle.std.specs.Int.{IsInRange}
use Rattle.std.specs.Char.{is_ascii_digit}
use Rattle.std.proofs.lemmas.Bool.Decides.{nat_tests}

pub let_through : {A : Type 0} (test : Bool) (x y : A) → (if test then Some x else None) ≡ Some y → (test ≡ true) × (y ≡ x)
let_through true x y h = (refl, cc)
let_through false x y h = absurd (cc)

pub is_number : (a k : ℕ) → (a == k) ≡ true → a ≡ k
is_number a k h = grind (arith, nat_tests)

pub at_most : (a k : ℕ) → nat_le a k ≡ true → a ≤ k
at_most a k h = grind (arith, nat_tests)

pub digits_in_range : (a b : ℕ) → (is_ascii_digit a && is_ascii_digit b) ≡ true → IsInRange 48 57 a × IsInRange 48 57 b
digits_in_range a b h = grind (arith, nat_tests)

pub two_hold : (p q : Bool) → (p && q) ≡ true → (p ≡ true) × (q ≡ true)
two_hold true true h = (refl, refl)
two_hold p q h = absurd (cc)

pub three_hold : (p q r : Bool) → (p && q && r) ≡ true → (p ≡ true) × (q ≡ true) × (r ≡ true)
three_hold true true true h = (refl, refl, refl)
three_hold p q r h = absurd (cc)

pub four_hold : (p q r s : Bool) → (p && q && r && s) ≡ true → (p ≡ true) × (q ≡ true) × (r ≡ true) × (s ≡ true)
four_hold true true true true h = (refl, refl, refl, refl)
four_hold p q r s h = absurd (cc)

pub seven_hold : (p q r s t u v : Bool) → (p && q && r && s && t && u && v) ≡ true → (p ≡ true) × (q ≡ true) × (r ≡ true) × (s ≡ true) × (t ≡ true) × (u ≡ true) × (v ≡ true)
seven_hold true true true true true true true h = (refl, refl, refl, refl, refl, refl, refl)
seven_hold p q r s t u v h = absurd (cc)
