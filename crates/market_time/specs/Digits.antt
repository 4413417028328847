-- Numbers below 100 as two digits of a text.
use Rattle.std.specs.Prelude.{ℕ, Bool, ◌+◌, ◌-◌, ◌*◌, ◌/◌, ◌%◌, ◌&&◌, List, [], ◌∷◌, slice_index}
use Rattle.std.specs.Char.{is_ascii_digit}

-- the byte at this place and the next one are digits
abbrev pub has_two_digits : List ℕ → ℕ → Bool
has_two_digits text at =
    is_ascii_digit (slice_index text at) && is_ascii_digit (slice_index text (at + 1))

-- the number that these two digits write
abbrev pub two_digits : List ℕ → ℕ → ℕ
two_digits text at = 10 * (slice_index text at - 48) + (slice_index text (at + 1) - 48)

-- a number below 100 as two digits
abbrev pub digits_of : ℕ → List ℕ
digits_of n = (48 + n / 10) ∷ (48 + n % 10) ∷ []
