-- The names of the trade that a text spells.
use Rattle.std.specs.Prelude.{ℕ, ◌-◌, List, length, slice_index, Bool, ◌==◌, ◌&&◌, ◌||◌, nat_le, if◌then◌else◌, Option, Some, None}
use Rattle.std.specs.Char.{is_ascii_digit, is_ascii_uppercase}
use Rattle.std.specs.List.{list_all}
use Rattle.fare_law.specs.declared.names.Place.{Place}
use Rattle.fare_law.specs.declared.names.Carrier.{Carrier}
use Rattle.fare_law.specs.declared.names.Basis.{Basis}

-- a capital letter or a digit
abbrev pub is_character : ℕ → Bool
is_character c = is_ascii_uppercase c || is_ascii_digit c

-- three capital letters
unfoldable pub place_of : List ℕ → Option Place
place_of text = if (length text == 3) && list_all is_ascii_uppercase text then Some (record { 0 = text }) else None

-- two capital letters or digits
unfoldable pub carrier_of : List ℕ → Option Carrier
carrier_of text = if (length text == 2) && list_all is_character text then Some (record { 0 = text }) else None

-- one to eight capital letters or digits
unfoldable pub basis_of : List ℕ → Option Basis
basis_of text =
    if nat_le 1 (length text) && nat_le (length text) 8 && list_all is_character text then Some (record { 0 = text }) else None

-- one capital letter, 0 for A to 25 for Z
unfoldable pub class_of : List ℕ → Option ℕ
class_of text = if (length text == 1) && is_ascii_uppercase (slice_index text 0) then Some (slice_index text 0 - 65) else None
