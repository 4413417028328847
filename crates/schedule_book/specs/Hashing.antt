-- What a dated number feeds to a hash.
use Rattle.std.specs.Prelude.{ℕ, ◌+◌, ◌*◌, slice_index}
use Rattle.fare_law.specs.declared.names.Carrier.{Carrier}
use Rattle.fare_law.specs.declared.names.Place.{Place}

-- the letters of a carrier and a place and a number between them, as one number
abbrev pub name_number : Carrier → ℕ → Place → ℕ
name_number c n p = slice_index c.0 0 + slice_index c.0 1 * 256 + n * 65536 + (slice_index p.0 0 + slice_index p.0 1 * 256 + slice_index p.0 2 * 65536) * 4294967296
