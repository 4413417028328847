-- The members of an object, by their names.
use Rattle.std.specs.Prelude.{ℕ, ℤ, suc, List, Bool, false, ◌==◌, ◌&&◌, nat_le, if◌then◌else◌, Option, Some, None, option_map, option_and_then, unwrap_or}
use Rattle.serde_json.specs.Data.{Data, Items, Members, no_members, member}
use Rattle.serde_json.specs.Find.{get, as_number, as_u64, as_integer, as_str, as_array, as_object}
use Rattle.fare_law.specs.declared.names.Place.{Place}
use Rattle.fare_law.specs.declared.names.Carrier.{Carrier}
use Rattle.fare_law.specs.declared.names.Basis.{Basis}
use Rattle.market_time.specs.Dates.{day_spelled}
use Rattle.name_text.specs.Names.{place_of, carrier_of, basis_of, class_of}

abbrev pub member_count : Members → ℕ
member_count no_members = 0
member_count (member k d ms) = suc (member_count ms)

-- an object of so many members. It has each name once, so n members of which n are known are exactly these
abbrev pub has_members : ℕ → Data → Bool
has_members n d = unwrap_or (option_map (λ ms. member_count ms == n) (as_object d)) false

-- the member of this name, if the object has no other
abbrev pub sole_member : List ℕ → Data → Option Data
sole_member name d = if has_members 1 d then get name d else None

-- the items of a member that is a list
abbrev pub items_at : List ℕ → Data → Option Items
items_at name d = option_and_then as_array (get name d)

-- a member that is a text
abbrev pub text_at : List ℕ → Data → Option (List ℕ)
text_at name d = option_and_then as_str (get name d)

-- a member that is a whole number: `serde_json` has it as a `u64` or an `i64`
abbrev pub whole_at : List ℕ → Data → Option ℤ
whole_at name d = option_and_then as_integer (option_and_then as_number (get name d))

-- a member that is a whole number from low to high
abbrev pub between_at : List ℕ → ℕ → ℕ → Data → Option ℕ
between_at name low high d =
    option_and_then (λ n. if nat_le low n && nat_le n high then Some n else None)
    (option_and_then as_u64 (option_and_then as_number (get name d)))

-- a member that is a date
abbrev pub date_at : List ℕ → Data → Option ℤ
date_at name d = option_and_then day_spelled (text_at name d)

-- a member that is a place
abbrev pub place_at : List ℕ → Data → Option Place
place_at name d = option_and_then place_of (text_at name d)

-- a member that is a carrier
abbrev pub carrier_at : List ℕ → Data → Option Carrier
carrier_at name d = option_and_then carrier_of (text_at name d)

-- a member that is a fare basis
abbrev pub basis_at : List ℕ → Data → Option Basis
basis_at name d = option_and_then basis_of (text_at name d)

-- a member that is a booking class
abbrev pub class_at : List ℕ → Data → Option ℕ
class_at name d = option_and_then class_of (text_at name d)
