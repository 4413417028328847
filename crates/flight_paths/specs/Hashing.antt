-- What a position feeds to a hash of its places.
use Rattle.std.specs.Prelude.{ℕ, ◌+◌, ◌*◌, slice_index, Option, None, Some}
use Rattle.fare_law.specs.declared.names.Place.{Place}

-- the letters of a place as one number
abbrev pub place_number : Place → ℕ
place_number p = slice_index p.0 0 + slice_index p.0 1 * 256 + slice_index p.0 2 * 65536

-- and of the place called at first, if there is one
abbrev pub via_number : Option Place → ℕ
via_number None = 0
via_number (Some v) = place_number v
