-- Numbers of options.
use Rattle.std.specs.Prelude.{ℕ, ◌^◌, ◌&&◌, Bool, nat_le, nat_lt, length, Option, Some, None, option_map, option_and_then, if◌then◌else◌}
use Rattle.std.specs.Char.{is_ascii_digit}
use Rattle.std.specs.List.{list_all}
use Rattle.std.specs.Str.Parse.{digits_value}
use Rattle.clap.specs.Words.{Text}

-- one to ten decimal digits
abbrev pub is_numeral : Text → Bool
is_numeral text = nat_le 1 (length text) && (nat_le (length text) 10 && list_all is_ascii_digit text)

-- the value of digits, unless it is too great
abbrev pub value : Text → Option ℕ
value digits = let n = digits_value 10 digits in if nat_lt n (2 ^ 32) then Some n else None

abbrev pub within : ℕ → ℕ → ℕ → Option ℕ
within low high n = if nat_le low n && nat_le n high then Some n else None

-- the number that a text writes, where it lies from low to high
abbrev pub number_in : ℕ → ℕ → Text → Option ℕ
number_in low high text = if is_numeral text then option_and_then (within low high) (value text) else None

-- of an option that must be given
abbrev pub required : ℕ → ℕ → Option Text → Option ℕ
required low high text = option_and_then (number_in low high) text

-- of one that has a default
abbrev pub defaulted : ℕ → ℕ → ℕ → Option Text → Option ℕ
defaulted low high default None = Some default
defaulted low high default (Some text) = number_in low high text

-- of one that may be left out
abbrev pub optional : ℕ → ℕ → Option Text → Option (Option ℕ)
optional low high None = Some None
optional low high (Some text) = option_map Some (number_in low high text)
