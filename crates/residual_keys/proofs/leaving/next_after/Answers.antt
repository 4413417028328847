use Rattle.std.proofs.Common.{◌≡◌, [], IfNone, sym, subst}
use Rattle.residual_keys.specs.declared.residual.Next.{Next}
use Rattle.residual_keys.specs.Residuals.{UnitStep}
use Rattle.residual_keys.specs.Steps.{Leaves}
use Rattle.residual_keys.proofs.OneNext.{units_one}
use Rattle.residual_keys.proofs.StepTaken.{if_none}
use Rattle.residual_keys.proofs.leaving.next_after.Goals as goal

pub returns-in-Some-clause-none : goal.returns-in-Some-clause-none
returns-in-Some-clause-none c =
    let r = c.args.residual.now in
    let p = c.args.facts.now in
    let us = c.in-Some.units in
    if_none (IfNone c.args.after (us ≡ []) → ⊥) ((next : Next) → Leaves r c.args.after p c.args.role c.args.slot next → ⊥) c.standing.result c.standing.ensures.none
    (λ no next l.
    let one = units_one c.args.role c.args.slot r.units us l.units p (subst (λ x. UnitStep c.args.role c.args.slot x p us) c.of.ensures c.in-Some.ensures.some) l.step in
    no (subst (λ x. IfNone c.args.after (x ≡ [])) (sym one) l.done))
