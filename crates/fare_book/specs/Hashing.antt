-- What the names of markets and rules feed to a hash.
use Rattle.std.specs.Prelude.{ℕ, ◌+◌, ◌*◌, slice_index}
use Rattle.fare_law.specs.declared.names.Carrier.{Carrier}
use Rattle.fare_law.specs.declared.names.Place.{Place}

-- the letters of two places as one number
abbrev pub market_number : Place → Place → ℕ
market_number p q = slice_index p.0 0 + slice_index p.0 1 * 256 + slice_index p.0 2 * 65536 + (slice_index q.0 0 + slice_index q.0 1 * 256 + slice_index q.0 2 * 65536) * 16777216

-- the letters of a carrier and a number as one number
abbrev pub rule_number : Carrier → ℕ → ℕ
rule_number c n = slice_index c.0 0 + slice_index c.0 1 * 256 + n * 65536
