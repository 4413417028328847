use Rattle.std.proofs.Common.{◌≡◌, refl, sym, subst, ◌∙◌, FitsSigned, w32, rules}
use Rattle.std.proofs.lemmas.Int.{to_z-of_z}
use Rattle.std.proofs.lemmas.Bool.{true≢false}
use Rattle.fare_law.specs.declared.rules.UnitKind.{UnitKind}
use Rattle.fare_law.specs.Units.{Reverse}
use Rattle.open_unit.specs.OpenUnits.{MayClose}
use Rattle.open_unit.proofs.units.OpenUnit.close_by.Goals as goal
use Rattle.open_unit.proofs.units.OpenUnit.close_by.Goals.{then-not-may_be-via-then-not-may_be, then-not-may_be-via-else-not-may_be+then-not-may_return}

pub returns-then-not-may_be-clause-else_none : goal.returns-then-not-may_be-clause-else_none
returns-then-not-may_be-clause-else_none c kind m =
    let u = c.args.self.now in
    let p = c.args.facts.now in
    let made = (c.in_ok-kind.ensures kind).1 m.makes in
    let same : kind ≡ c.in_ok-kind.kind = cc in
    let here : MayClose u p c.in_ok-kind.kind = subst (λ (k : UnitKind). MayClose u p k) same m in
    elim c.then-not-may_be.branch [
      | then-not-may_be-via-then-not-may_be w ↦ true≢false (sym (c.may_be.ensures.1 (here.kind_allowed, here.partners)) ∙ w.if-not-may_be.true)
      | then-not-may_be-via-else-not-may_be+then-not-may_return w ↦ true≢false (sym (w.may_return.ensures.1 ((here.least, here.greatest), here.by)) ∙ w.if-not-may_return.true)
    ]

pub returns-clause-closes : goal.returns-clause-closes
returns-clause-closes c =
    let small : FitsSigned w32 c.args.self.now.first_day = search rules in
    let fits = simp to_z-of_z at c.fits.ensures in
    let holds = fits.0 c.if-not-fits.false in
    let allowed = c.may_be.ensures.0 c.if-not-may_be.false in
    let returns = c.may_return.ensures.0 c.if-not-may_return.false in
    record {
      reverse = subst Reverse c.facts.view_is c.if-not-facts.false;
      stands = holds.0;
      makes = (c.in_ok-kind.ensures c.in_ok-kind.kind).0 refl;
      kind_allowed = allowed.0;
      days = holds.1;
      least = returns.0.0;
      greatest = returns.0.1;
      by = returns.1;
      partners = allowed.1;
    }
