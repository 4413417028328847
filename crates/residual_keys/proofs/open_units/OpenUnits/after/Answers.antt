use Rattle.std.proofs.Common.{List, IfNone, sym, subst}
use Rattle.open_unit.specs.declared.units.OpenUnit.{OpenUnit}
use Rattle.residual_keys.specs.Residuals.{UnitStep}
use Rattle.residual_keys.proofs.open_units.OpenUnits.after.Goals as goal

pub returns-in-GoesOn-clause-none : goal.returns-in-GoesOn-clause-none
returns-in-GoesOn-clause-none c = subst (λ r. IfNone c.after_going_on.result ((us : List OpenUnit) → UnitStep r c.args.slot c.args.self c.args.facts.now us → ⊥)) (sym c.in-GoesOn.is) c.after_going_on.ensures.none

pub returns-in-Closes-clause-none : goal.returns-in-Closes-clause-none
returns-in-Closes-clause-none c = subst (λ r. IfNone c.after_closing.result ((us : List OpenUnit) → UnitStep r c.args.slot c.args.self c.args.facts.now us → ⊥)) (sym c.in-Closes.is) c.after_closing.ensures.none
