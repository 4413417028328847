-- Numbers of one digit, read from their bytes and added as bytes.
use Rattle.std.proofs.Common.{◌≡◌, ◌≤◌, ◌+◌, ◌-◌, ℕ, List, [], ◌∷◌, ◌++◌, Some, ap, get_or, refl, sym, ◌∙◌, arith, length, slice_index_or}
use Rattle.std.specs.Fmt.{decimal}
use Rattle.std.specs.Int.{IsInRange}
use Rattle.std.proofs.lemmas.Fmt.{decimal_digit}
use Rattle.word_text.specs.Laws.{NumberTells}
use Rattle.word_text.specs.Words.{number_in}

digit_read : NumberTells → (b : ℕ) → IsInRange 48 57 b → Some (b - 48) ≡ number_in 255 (b ∷ [])
digit_read k b h =
    let is : decimal (b - 48) ≡ b ∷ [] = decimal_digit (b - 48) (omega (arith, h.0, h.1)) ∙ ap (λ x. x ∷ []) (omega (arith, h.0)) in
    sym (ap (number_in 255) (sym is) ∙ k.again 255 (b - 48) (omega (arith, h.1)) (omega (arith, h.1)))

-- a word of one byte that is a digit
pub digit_word : NumberTells → (word : List ℕ) → length word ≡ 1 → IsInRange 48 57 (slice_index_or word 0 0) → Some (slice_index_or word 0 0 - 48) ≡ number_in 255 word
digit_word k [] one h = absurd (omega (arith, one))
digit_word k (b ∷ []) one h = digit_read k b h
digit_word k (b ∷ c ∷ word) one h = absurd (omega (arith, one))

-- two numbers of one digit between separators, and a word after them
pub digits_added : (old new word : List ℕ) (one other : ℕ) → one ≤ 2 → other ≤ 3 → new ≡ old ++ 32 ∷ (48 + one) ∷ 58 ∷ (48 + other) ∷ 58 ∷ word → new ≡ old ++ 32 ∷ (decimal one ++ 58 ∷ (decimal other ++ 58 ∷ word))
digits_added old new word one other low lower is = rw (decimal_digit one (omega (arith, low)), decimal_digit other (omega (arith, lower))) is

-- the letters of a word of two
pub two_letters : (word : List ℕ) → length word ≡ 2 → get_or word 0 0 ∷ get_or word 1 0 ∷ [] ≡ word
two_letters [] two = absurd (omega (arith, two))
two_letters (a ∷ []) two = absurd (omega (arith, two))
two_letters (a ∷ b ∷ []) two = refl
two_letters (a ∷ b ∷ c ∷ word) two = absurd (omega (arith, two))
