-- What it says of a text that it is cut, and that it is a number.
use Rattle.std.specs.Prelude.{◌≡◌, ◌≤◌, ◌<◌, ◌^◌, ℕ, List, ◌∷◌, ◌++◌, Some, None, decimal}
use Rattle.std.specs.Int.{IsInRange}
use Rattle.fare_law.specs.Lists.{Each}
use Rattle.word_text.specs.Words.{IsFreeOf, cut_at, cut_last_at, number_in}

-- the parts of a cut are those round the first separator
pub record CutTells : Type 0 where
  pub again : (c : ℕ) (word rest : List ℕ) → IsFreeOf c word → cut_at c (word ++ c ∷ rest) ≡ Some (word, rest)
  pub none : (c : ℕ) (text : List ℕ) → IsFreeOf c text → cut_at c text ≡ None
  pub read : (c : ℕ) (text : List ℕ) (p : List ℕ × List ℕ) → cut_at c text ≡ Some p → (text ≡ p.0 ++ c ∷ p.1) × IsFreeOf c p.0

-- the parts of a cut are those round the last separator
pub record LastCutTells : Type 0 where
  pub again : (c : ℕ) (before word : List ℕ) → IsFreeOf c word → cut_last_at c (before ++ c ∷ word) ≡ Some (before, word)
  pub read : (c : ℕ) (text : List ℕ) (p : List ℕ × List ℕ) → cut_last_at c text ≡ Some p → (text ≡ p.0 ++ c ∷ p.1) × IsFreeOf c p.1

-- a number is read from its digits and from no other text
pub record NumberTells : Type 0 where
  pub again : (most n : ℕ) → n ≤ most → n < 2 ^ 64 → number_in most (decimal n) ≡ Some n
  pub read : (most n : ℕ) (text : List ℕ) → number_in most text ≡ Some n → (n ≤ most) × (text ≡ decimal n)

-- each byte of a number's text is a digit
abbrev pub DigitsAre : Type 0
DigitsAre = (n : ℕ) → n < 2 ^ 64 → Each (IsInRange 48 57) (decimal n)
