-- The key of a residual whose position and open units have numbers.
use Rattle.std.specs.Prelude.{ℕ, suc, Bool, List, slice_get, Option, Some, None, option_map, position}
use Rattle.flight_paths.specs.declared.positions.Position.{Position}
use Rattle.open_unit.specs.declared.units.OpenUnit.{OpenUnit}
use Rattle.residual_keys.specs.Residuals.{State}
use Rattle.residual_table.specs.declared.key.ResidualKey.{ResidualKey}
use Rattle.residual_table.specs.Keys.{Tables, ◌>>=◌}

-- the slot of an open unit that has a number, by this test, or of none
abbrev pub slot_at : {X : Type 0} → (X → X → Bool) → List X → Option X → Option ℕ
slot_at same xs None = Some 0
slot_at same xs (Some x) = option_map (λ n. suc n) (position (same x) xs)

-- the key of the residual, by these tests: none where its position or an open unit of it has no number
abbrev pub key_at : (Position → Position → Bool) → (OpenUnit → OpenUnit → Bool) → Tables → State → Option ResidualKey
key_at same_position same_unit t x = do
  at ← position (same_position x.at) t.positions
  first ← slot_at same_unit t.units (slice_get x.units 0)
  second ← slot_at same_unit t.units (slice_get x.units 1)
  Some (record { position = at; first = first; second = second; part = x.part })
