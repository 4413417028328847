-- What tests of numbers and truth values tell. Given on to the crates above.
use Rattle.std.proofs.Common.{Bool, arith, false, int_lt, nat_le, not, refl, sym, true, ℕ, ℤ, ◌&&◌, ◌<ℤ◌, ◌<◌, ◌==◌, ◌||◌, ◌≡◌, ◌≤◌}
use Rattle.std.proofs.lemmas.Bool.Decides.{nat_tests}
use Rattle.std.proofs.lemmas.Int.{ints}
use Rattle.std.specs.Cmp.{nat_cmp_is}
use Rattle.std.specs.Ordering.{nat_cmp}
use Rattle.std.specs.declared.cmp.Ordering.TheVariants.{Less as Lower}

pub both_true : (a b : Bool) → (a && b) ≡ true → (a ≡ true) × (b ≡ true)
both_true true b e = (refl, e)
both_true false b e = absurd (cc)

pub false_true : false ≡ true → ⊥
false_true e = cc

pub int_lt_is : (a b : ℤ) → int_lt a b ≡ true → a <ℤ b
int_lt_is a b e = grind (arith, ints)

pub le_false : (a b : ℕ) → b < a → nat_le a b ≡ false
le_false a b h = grind (arith, nat_tests)

pub le_true : (a b : ℕ) → a ≤ b → nat_le a b ≡ true
le_true a b h = grind (arith, nat_tests)

pub less_is : (n m : ℕ) → n < m → nat_cmp n m ≡ Lower
less_is n m lt = sym (nat_cmp_is n m Lower lt)

pub lt_int_lt : (a b : ℤ) → a <ℤ b → int_lt a b ≡ true
lt_int_lt a b e = grind (arith, ints)

pub neither : (a b : Bool) → (a || b) ≡ false → (a ≡ false) × (b ≡ false)
neither true b e = absurd (cc)
neither false b e = (refl, e)

pub not_so : {A : Type 0} (t : Bool) → t ≡ false → (A → t ≡ true) → A → ⊥
not_so t f h a = clash f (h a)
  where
    clash : {t : Bool} → t ≡ false → t ≡ true → ⊥
    clash p q = cc

pub not_true : (r : Bool) → (r ≡ true → ⊥) → r ≡ false
not_true true h = absurd (h refl)
not_true false h = refl

pub or_true : (b : Bool) → (b || true) ≡ true
or_true true = refl
or_true false = refl

pub same_byte : (b c : ℕ) → (b == c) ≡ true → b ≡ c
same_byte b c e = grind (arith, nat_tests)

pub true_false : {b : Bool} → b ≡ true → b ≡ false → ⊥
true_false p q = cc

pub untrue : (b : Bool) → not b ≡ true → b ≡ false
untrue true e = absurd (cc)
untrue false e = refl
