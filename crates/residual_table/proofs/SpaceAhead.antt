-- A text that ends with a space and a word is cut there, where no space stands in the word.
use Rattle.std.proofs.Common.{◌≡◌, ℕ, zero, suc, List, [], ◌∷◌, ◌++◌, length, take, get_or, Some, None, refl, ap, arith}
use Rattle.word_text.specs.Words.{cut_last_at}

pub space_ahead : (before word : List ℕ) → cut_last_at 32 word ≡ None → cut_last_at 32 (before ++ 32 ∷ word) ≡ Some (before, word)
unfolding cut_last_at
space_ahead [] word e = rw e refl
space_ahead (b ∷ before) word e = rw (space_ahead before word e) refl

-- the last byte is a space
pub space_last : (front : List ℕ) (n d : ℕ) → length front ≡ suc n → get_or front n d ≡ 32 → front ≡ take n front ++ 32 ∷ []
space_last [] n d many e = absurd (omega (arith, many))
space_last (b ∷ []) zero d many e = ap (λ x. x ∷ []) e
space_last (b ∷ []) (suc n) d many e = absurd (omega (arith, many))
space_last (b ∷ c ∷ front) zero d many e = absurd (omega (arith, many))
space_last (b ∷ c ∷ front) (suc n) d many e = ap (λ xs. b ∷ xs) (space_last (c ∷ front) n d (omega (arith, many)) e)
