-- Numbers of digits, as `parse` reads them.
use Rattle.std.proofs.Common.{◌≡◌, ◌<◌, ◌^◌, ℕ, Bool, true, false, ◌&&◌, List, [], ◌∷◌, length, Result, Ok, Err, Some, None, cond, nat_le, nat_lt, ap, sym, refl, arith, ◌∙◌}
use Rattle.std.specs.Char.{is_ascii_digit}
use Rattle.std.specs.Int.{IsInRange}
use Rattle.std.specs.List.{list_all}
use Rattle.std.specs.Result.{OkIff, result_ok}
use Rattle.std.specs.Str.Parse.{AllDigits, ParsesUnsigned, digits_value}
use Rattle.std.proofs.lemmas.Bool.Decides.{nat_tests}
use Rattle.std.proofs.lemmas.Str.{digit_value_digit}
use Rattle.std.proofs.lemmas.Str.Parse.{IsNumeralModel, numerals_by_value, tells_digits, parse_digits}
use Rattle.program_words.specs.Numbers.{is_numeral, value}

own : IsNumeralModel (AllDigits 10) (digits_value 10)
own = numerals_by_value (AllDigits 10) tells_digits

both : (a b : Bool) → (a && b) ≡ true → (a ≡ true) × (b ≡ true)
both true true e = (refl, refl)
both true false e = absurd (cc)
both false b e = absurd (cc)

digit : (c : ℕ) → is_ascii_digit c ≡ true → IsInRange 48 57 c
digit c e = grind (arith, nat_tests)

digits : (text : List ℕ) → list_all is_ascii_digit text ≡ true → AllDigits 10 text
digits [] e = tt
digits (c ∷ cs) e =
    let h = both (is_ascii_digit c) (list_all is_ascii_digit cs) e in
    let k = digit c h.0 in
    (omega (arith, digit_value_digit c k, k), digits cs h.1)

-- a value that is small, and one that is not
is_small : (n : ℕ) → n < 2 ^ 32 → cond (nat_lt n (2 ^ 32)) (Some n) None ≡ Some n
is_small n h = let t : nat_lt n (2 ^ 32) ≡ true = grind (arith, nat_tests) in rw t refl

is_great : (n : ℕ) → (n < 2 ^ 32 → ⊥) → cond (nat_lt n (2 ^ 32)) (Some n) None ≡ None
is_great n h = go (nat_lt n (2 ^ 32)) refl
  where
    go : (t : Bool) → nat_lt n (2 ^ 32) ≡ t → cond t (Some n) None ≡ None
    go true e = absurd (h (grind (arith, nat_tests)))
    go false e = refl

-- what is parsed of a numeral is its value
pub parsed : {E : Type 0} (text : List ℕ) (r : Result ℕ E) → is_numeral text ≡ true → ParsesUnsigned 32 10 text r → result_ok r ≡ value text
parsed {E = E} text r e p =
    let long = both (nat_le 1 (length text)) (nat_le (length text) 10 && list_all is_ascii_digit text) e in
    let short = both (nat_le (length text) 10) (list_all is_ascii_digit text) long.1 in
    let some : 0 < length text = some_there (length text) long.0 in
    go r (parse_digits own {E = E} 32 text r p (digits text short.1)) some
  where
    some_there : (n : ℕ) → nat_le 1 n ≡ true → 0 < n
    some_there n h = grind (arith, nat_tests)

    go : (r : Result ℕ E) → OkIff r ((0 < length text) × (digits_value 10 text < 2 ^ 32)) (digits_value 10 text) → 0 < length text → result_ok r ≡ value text
    go (Ok n) h some = ap Some h.1 ∙ sym (is_small (digits_value 10 text) h.0.1)
    go (Err x) h some = sym (is_great (digits_value 10 text) (λ small. h (some, small)))
