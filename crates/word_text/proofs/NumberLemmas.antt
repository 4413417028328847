-- The digits that a number writes, and the number that digits write. Given on to the crates above.
use Rattle.std.proofs.Common.{cond, bytes_eq, ◌≡◌, ◌≤◌, ◌<◌, ◌+◌, ◌*◌, ◌^◌, ◌-◌, ◌&&◌, nat_le, ℕ, suc, Bool, true, false, List, [], ◌∷◌, ◌++◌, length, take, get_or, refl, ap, sym, ◌∙◌, subst, arith, inl, inr, eq-zero-or-pos, Option, None, Some}
use Rattle.std.proofs.Math.Seq.{take-suc}
use Rattle.std.specs.Char.{digit_value}
use Rattle.std.specs.Fmt.{decimal}
use Rattle.std.specs.Str.Parse.{AllDigits, digits_value, digits_value_after}
use Rattle.std.proofs.lemmas.Bool.{le-leb}
use Rattle.std.proofs.lemmas.Bool.Decides.{nat_tests}
use Rattle.std.proofs.lemmas.Slice.Eq.{bytes_eq-Decides}
use Rattle.std.proofs.lemmas.Str.{digit_value_digit}
use Rattle.std.proofs.lemmas.Str.Parse.{IsNumeralModel, numerals_by_value, digit_at, digits_value-take-le}
use Rattle.std.proofs.lemmas.Fmt.{decimal-digits_value, digits_decimal, digits_value-decimal, decimal_nonempty, first_decimal, decimal_digit}
use Rattle.std.specs.Int.{IsInRange}
use Rattle.fare_law.specs.Lists.{Each}
use Rattle.word_text.specs.Laws.{DigitsAre, NumberTells}
use Rattle.word_text.specs.Words.{BeginsAsNumber, number_in}
use Rattle.law_lemmas.proofs.Words.{decimal_model}

-- a number's own digits are read as it
pub number_again : (most n : ℕ) → n ≤ most → n < 2 ^ 64 → number_in most (decimal n) ≡ Some n
unfolding number_in
number_again most n h small =
    rw (digits_value-decimal decimal_model n small, le-leb n most h, (bytes_eq-Decides (decimal n) (decimal n)).1 refl) refl

-- a number that is read is at most the greatest, and the text is its digits
pub number_read : (most n : ℕ) (text : List ℕ) → number_in most text ≡ Some n → (n ≤ most) × (text ≡ decimal n)
unfolding number_in
number_read most n text e = go (nat_le (digits_value 10 text) most) (bytes_eq (decimal (digits_value 10 text)) text) refl refl e
  where
    go : (a b : Bool) → nat_le (digits_value 10 text) most ≡ a → bytes_eq (decimal (digits_value 10 text)) text ≡ b
        → cond (a && b) (Some (digits_value 10 text)) None ≡ Some n → (n ≤ most) × (text ≡ decimal n)
    go true true x y z =
        let is : digits_value 10 text ≡ n = cc in
        (grind (arith, nat_tests), sym ((bytes_eq-Decides (decimal (digits_value 10 text)) text).0 y) ∙ ap decimal is)
    go true false x y z = absurd (cc)
    go false b x y z = absurd (cc)

-- nothing is read where no number has such digits
pub number_none : (most : ℕ) (text : List ℕ) → ((n : ℕ) → n ≤ most → text ≡ decimal n → ⊥) → number_in most text ≡ None
number_none most text none = go (number_in most text) refl
  where
    go : (o : Option ℕ) → number_in most text ≡ o → number_in most text ≡ None
    go None e = e
    go (Some n) e = let h = number_read most n text e in absurd (none n h.0 h.1)

-- a number's digits begin as a number does
begins : (n : ℕ) → n < 2 ^ 64 → BeginsAsNumber (decimal n)
begins n small = elim (eq-zero-or-pos n) [
  | inl zero ↦ inr (subst (λ m. decimal m ≡ 48 ∷ []) (sym zero) (decimal_digit 0 (omega arith)))
  | inr more ↦ inl (omega (arith, first_decimal n more small), (digit_at (decimal n) 0 (digits_decimal decimal_model n small) (decimal_nonempty n small)).1)
]

-- no leading zero
alone : (text : List ℕ) → BeginsAsNumber text → get_or text 0 0 ≡ 48 → length text ≡ 1
alone text (inr zero) e = ap length zero
alone text (inl digit) e = absurd (omega (arith, digit, e))

-- a text that begins otherwise is no number
pub begins_otherwise : (text : List ℕ) → (BeginsAsNumber text → ⊥) → None ≡ number_in (2 ^ 64 - 1) text
begins_otherwise text other = sym (number_none (2 ^ 64 - 1) text (λ n h e. other (subst BeginsAsNumber (sym e) (begins n (omega (arith, h))))))

-- nor is one with a byte that is no digit
pub other_byte_in : (text : List ℕ) (i : ℕ) → i < length text → (IsInRange 48 57 (get_or text i 0) → ⊥) → None ≡ number_in (2 ^ 64 - 1) text
other_byte_in text i l other = sym (number_none (2 ^ 64 - 1) text (λ n h e.
    let small : n < 2 ^ 64 = omega (arith, h) in
    other (digit_at text i (subst (AllDigits 10) (sym e) (digits_decimal decimal_model n small)) l)))

-- what one more digit makes of the number of those before
after_push : (n : ℕ) (ds : List ℕ) (c : ℕ) → digits_value_after 10 n (ds ++ c ∷ []) ≡ digits_value_after 10 n ds * 10 + digit_value c
after_push n [] c = refl
after_push n (d ∷ ds) c = after_push (n * 10 + digit_value d) ds c

pub value_more : (text : List ℕ) (i : ℕ) → i < length text → IsInRange 48 57 (get_or text i 0) → digits_value 10 (take (i + 1) text) ≡ digits_value 10 (take i text) * 10 + (get_or text i 0 - 48)
value_more text i l digit =
    let c = get_or text i 0 in
    let next : suc i ≡ i + 1 = omega arith in
    let front : take (i + 1) text ≡ take i text ++ c ∷ [] = subst (λ n. take n text ≡ take i text ++ c ∷ []) next (take-suc text i 0 l) in
    let worth : digit_value c ≡ c - 48 = omega (arith, digit_value_digit c digit) in
    ap (digits_value 10) front ∙ after_push 0 (take i text) c ∙ ap (λ d. digits_value 10 (take i text) * 10 + d) worth

-- the first digits make no more than all
pub too_great : (text : List ℕ) (i : ℕ) → 2 ^ 64 ≤ digits_value 10 (take i text) → None ≡ number_in (2 ^ 64 - 1) text
too_great text i great = sym (number_none (2 ^ 64 - 1) text (λ n h e.
    let small : n < 2 ^ 64 = omega (arith, h) in
    let all : digits_value 10 text ≡ n = ap (digits_value 10) e ∙ digits_value-decimal decimal_model n small in
    omega (arith, great, all, small, digits_value-take-le 10 text i (omega arith))))

-- a text of digits that begins as a number does is that of their number
pub number_of_digits : (text : List ℕ) (n : ℕ) → BeginsAsNumber text → AllDigits 10 text → n ≡ digits_value 10 text → n < 2 ^ 64 → Some n ≡ number_in (2 ^ 64 - 1) text
number_of_digits text n b digits is small =
    let value : digits_value 10 text < 2 ^ 64 = omega (arith, is, small) in
    let same : decimal (digits_value 10 text) ≡ text = decimal-digits_value decimal_model text digits (begun text b) (alone text b) value in
    sym (subst (λ (t : List ℕ). number_in (2 ^ 64 - 1) t ≡ Some n) (ap decimal is ∙ same) (number_again (2 ^ 64 - 1) n (omega arith) small))
  where
    begun : (text : List ℕ) → BeginsAsNumber text → 0 < length text
    begun [] (inl digit) = absurd (omega (arith, digit))
    begun [] (inr zero) = absurd (cc)
    begun (c ∷ cs) b = omega arith

-- a smaller greatest number
pub number_within : (most n : ℕ) (text : List ℕ) → number_in (2 ^ 64 - 1) text ≡ Some n → n ≤ most → Some n ≡ number_in most text
number_within most n text e h =
    let r = number_read (2 ^ 64 - 1) n text e in
    let small : n < 2 ^ 64 = omega (arith, r.0) in
    sym (subst (λ (t : List ℕ). number_in most t ≡ Some n) (sym r.1) (number_again most n h small))

pub number_past : (most n : ℕ) (text : List ℕ) → most < 2 ^ 64 → number_in (2 ^ 64 - 1) text ≡ Some n → most < n → None ≡ number_in most text
number_past most n text small e h =
    sym (number_none most text (λ m k w.
    let again = number_again (2 ^ 64 - 1) m (omega arith) (omega arith) in
    let same : m ≡ n = cc in
    omega (arith, same)))

pub number_never : (most : ℕ) (text : List ℕ) → most < 2 ^ 64 → number_in (2 ^ 64 - 1) text ≡ None → None ≡ number_in most text
number_never most text small e =
    sym (number_none most text (λ m k w.
    let again = number_again (2 ^ 64 - 1) m (omega arith) (omega arith) in
    let same : ◌≡◌ {A = Option ℕ} None (Some m) = cc in
    absurd (cc)))

-- texts of digits
many : IsNumeralModel (Each (IsInRange 48 57)) (digits_value 10)
many = numerals_by_value (Each (IsInRange 48 57)) (record { empty = tt; parts = λ c cs h. h; more = λ c cs h k. (h, k) })

pub digits_are : DigitsAre
digits_are n small = digits_decimal many n small

pub number_tells : NumberTells
number_tells = record { again = number_again; read = number_read }

pub ruleset number_laws = (digits_are, number_tells)

pub ruleset number_steps = (begins_otherwise, number_within, number_past, number_never)
