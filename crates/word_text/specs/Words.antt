-- Words of a text: what stands before and after a separator, and numbers in decimal digits.
use Rattle.std.specs.Prelude.{bytes_eq, ◌≡◌, ◌≢◌, ◌⊎◌, ℕ, ◌==◌, nat_le, ◌&&◌, List, [], ◌∷◌, slice_index, Option, Some, None, option_map, is_some, if◌then◌else◌, decimal}
use Rattle.std.specs.Int.{IsInRange}
use Rattle.std.specs.Str.Parse.{digits_value}
use Rattle.fare_law.specs.Lists.{Each}

-- no byte is this one
abbrev pub IsFreeOf : ℕ → List ℕ → Type 0
IsFreeOf c word = Each (λ b. b ≢ c) word

-- what stands before the first byte that is this one, and what stands after it
unfoldable pub cut_at : ℕ → List ℕ → Option (List ℕ × List ℕ)
cut_at c [] = None
cut_at c (b ∷ bs) = if b == c then Some ([], bs) else option_map (λ p. (b ∷ p.0, p.1)) (cut_at c bs)

-- what stands before the last byte that is this one, and what stands after it
unfoldable pub cut_last_at : ℕ → List ℕ → Option (List ℕ × List ℕ)
cut_last_at c [] = None
cut_last_at c (b ∷ bs) = if is_some (cut_last_at c bs) then option_map (λ p. (b ∷ p.0, p.1)) (cut_last_at c bs)
    else if b == c then Some ([], bs) else None

-- a digit that isn't 0 comes first, or 0 stands alone
abbrev pub BeginsAsNumber : List ℕ → Type 0
BeginsAsNumber text = IsInRange 49 57 (slice_index text 0) ⊎ (text ≡ 48 ∷ [])

-- the number up to the greatest one whose digits the text is
unfoldable pub number_in : ℕ → List ℕ → Option ℕ
number_in most text =
    if nat_le (digits_value 10 text) most && bytes_eq (decimal (digits_value 10 text)) text then Some (digits_value 10 text) else None
