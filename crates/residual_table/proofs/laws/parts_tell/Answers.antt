use Rattle.std.proofs.Common.{◌≡◌, ◌↔◌, Bool, true, false, ◌&&◌, IsTrue, [], ◌∷◌, slice_get, Some, None, ap, arith}
use Rattle.flight_paths.specs.declared.positions.Position.{Position}
use Rattle.open_unit.specs.declared.units.OpenUnit.{OpenUnit}
use Rattle.open_unit.specs.contracts.units.OpenUnitPartialEq.TheImpl as unit
use Rattle.open_unit.specs.Ranges.{UnitInRanges}
use Rattle.residual_keys.specs.Kept.{IsResidual}
use Rattle.residual_keys.specs.Residuals.{State, no_part}
use Rattle.residual_table.proofs.laws.parts_tell.Goals as goal

somewhere : Position
somewhere = record { slice = 0; leg = 0; place = record { 0 = [] }; via = None; lo = 0; hi = 0 }

-- a residual of one open unit
alone : OpenUnit → State
alone u = record { at = somewhere; units = u ∷ []; part = no_part }

kept : (u : OpenUnit) → UnitInRanges u → IsResidual (alone u)
unfolding alone
kept u h = record { few = omega arith; units = (h, tt); part = record { units = omega arith; ends = omega arith } }

and_true : (b : Bool) → IsTrue (b && true) ↔ IsTrue b
and_true true = (λ h. h, λ h. h)
and_true false = (λ h. h, λ h. h)

unit_in : (u v : OpenUnit) → alone u ≡ alone v → u ≡ v
unfolding alone
unit_in u v e = let x : Some u ≡ Some v = ap (λ z. slice_get z.units 0) e in cc

pub returns-clause-units : goal.returns-clause-units
unfolding alone somewhere
returns-clause-units c = λ u v hu hv.
    let h = c.residuals_tell.ensures (alone u) (alone v) (kept u hu) (kept v hv) in
    (λ e. unit_in u v (h.0 ((and_true (unit.ghosts.eq u v)).1 e)), λ e. (and_true (unit.ghosts.eq u v)).0 (h.1 (ap alone e)))
