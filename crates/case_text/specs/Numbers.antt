-- Numbers of a text: decimal digits without sign or leading zero.
use Rattle.std.specs.Prelude.{ℕ, Bool, true, false, ◌==◌, ◌&&◌, ◌+◌, ◌-◌, ◌*◌, not, nat_le, List, [], ◌∷◌, Option, Some, None, option_and_then, if◌then◌else◌}
use Rattle.std.specs.Char.{is_ascii_digit}

-- at least one character, and no zero in front of others
abbrev pub leads_well : List ℕ → Bool
leads_well [] = false
leads_well (c ∷ []) = true
leads_well (c ∷ d ∷ rest) = not (c == 48)

-- the number that these digits write after those of n
abbrev pub read_on : ℕ → List ℕ → Option ℕ
read_on n [] = Some n
read_on n (c ∷ cs) = if is_ascii_digit c then read_on (10 * n + (c - 48)) cs else None

-- the number that a text spells, if it spells one
abbrev pub number_spelled : List ℕ → Option ℕ
number_spelled text = if leads_well text then read_on 0 text else None

abbrev pub within : ℕ → ℕ → ℕ → Option ℕ
within low high n = if nat_le low n && nat_le n high then Some n else None

-- the number from low to high that a text spells, if it spells one
abbrev pub number_within : ℕ → ℕ → List ℕ → Option ℕ
number_within low high text = option_and_then (within low high) (number_spelled text)
