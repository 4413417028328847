-- Numbers over which the keys of residuals are spread: keys that differ in their positions alone have numbers that differ as these.
use Rattle.std.specs.Prelude.{◌≡◌, ℕ, ◌+◌, ◌*◌, ◌/◌, ◌%◌, ◌^◌, IsTrue}
use Rattle.std.specs.Cmp.Rules.{hashing}
use Rattle.std.proofs.Common.{rules}
use Rattle.open_unit.specs.Hashing.{carrier_is, carrier_number}
use Rattle.residual_table.specs.contracts.key.ResidualKeyPartialEq.TheImpl as keys
use Rattle.residual_table.specs.declared.key.ResidualKey.{ResidualKey}

-- a product of numbers of 64 bits, of which as many are kept
abbrev pub times : ℕ → ℕ → ℕ
times m n = (m * n) % 2 ^ 64

abbrev pub plus : ℕ → ℕ → ℕ
plus m n = (m + n) % 2 ^ 64

-- the open units and the ticket part as one number
abbrev pub mixed : ResidualKey → ℕ
mixed k = plus (plus (times k.first 0x9e3779b97f4a7c15) (times k.second 0xd1342543de82ef95)) (times (k.part.units + k.part.ends * 256 + carrier_number k.part.carrier * 65536) 0xc2b2ae3d27d4eb4f)

abbrev pub spread : ResidualKey → ℕ
spread k = plus (mixed k / 2 ^ 32) k.position

-- keys that are equal have one number
pub alike : (k l : ResidualKey) → IsTrue (keys.ghosts.eq k l) → spread k ≡ spread l
alike k l h = search (hashing, rules, carrier_is)
