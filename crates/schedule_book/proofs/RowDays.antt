-- The days that a row names, and its flights on them.
use Rattle.std.proofs.Common.{◌≡◌, ℤ, w32, to_z, of_z, ◌-◌, ◌^◌, ◌&&◌, ◌==◌, ◌≤ℤ◌, Bool, true, false, not, int_le, bit_and, IsBitSet, refl, arith}
use mir.Val.{SFits}
use Rattle.std.proofs.lemmas.Int.{ints, to_z-of_z}
use Rattle.std.proofs.lemmas.Bool.{eqb-false, ne_eqb}
use Rattle.fare_law.specs.declared.rows.FlightRow.{FlightRow}
use Rattle.fare_law.specs.Days.{weekday}
use Rattle.schedule_book.specs.Days.{names}
use Rattle.law_lemmas.proofs.Tests.{untrue}

-- a day as it is kept is that day
pub plain : (z : ℤ) → SFits w32 z → to_z w32 (of_z w32 z) ≡ z
plain z f = to_z-of_z w32 z f

pub record Named (row : FlightRow) (day : ℤ) : Type 0 where
  pub first : row.first ≤ℤ day
  pub last : day ≤ℤ row.last
  pub named : IsBitSet row.days (weekday day - 1)

both_true : (a b : Bool) → a && b ≡ true → (a ≡ true) × (b ≡ true)
both_true true b e = (refl, e)
both_true false b e = absurd (cc)

le_true : (a b : ℤ) → int_le a b ≡ true → a ≤ℤ b
le_true a b e = grind (arith, ints)

true_le : (a b : ℤ) → a ≤ℤ b → int_le a b ≡ true
true_le a b e = grind (arith, ints)

pub names_told : (row : FlightRow) (day : ℤ) → names row day ≡ true → Named row day
names_told row day e =
    let r = both_true (int_le row.first day) (int_le day row.last && not (bit_and row.days (2 ^ (weekday day - 1)) == 0)) e in
    let s = both_true (int_le day row.last) (not (bit_and row.days (2 ^ (weekday day - 1)) == 0)) r.1 in
    record {
      first = le_true row.first day r.0;
      last = le_true day row.last s.0;
      named = eqb-false (bit_and row.days (2 ^ (weekday day - 1))) 0 (untrue (bit_and row.days (2 ^ (weekday day - 1)) == 0) s.1);
    }

pub named_true : (row : FlightRow) (day : ℤ) → Named row day → names row day ≡ true
named_true row day n = join (int_le row.first day) (int_le day row.last) (bit_and row.days (2 ^ (weekday day - 1)) == 0) (true_le row.first day n.first) (true_le day row.last n.last) (ne_eqb (bit_and row.days (2 ^ (weekday day - 1))) 0 n.named)
  where
    join : (a b c : Bool) → a ≡ true → b ≡ true → c ≡ false → (a && (b && not c)) ≡ true
    join true true false x y z = refl
    join false b c x y z = absurd (cc)
    join true false c x y z = absurd (cc)
    join true true true x y z = absurd (cc)
