use Rattle.std.proofs.Common.{subst, sym}
use Rattle.fare_law.specs.Lists.{Each}
use Rattle.search_steps.specs.Numbers.{ArePositionSteps, AreUnitSteps}
use Rattle.search_steps.proofs.numbered_case.NumberedCase.let_go_lists.Goals as goal

pub invariant_of-self : goal.invariant_of-self
invariant_of-self c =
    let q = c.self.inside.case.request.now in
    let ts = c.self.inside.tables.kept.items in
    let l = c.let_go.new.self in (
      c.self.invariant.0,
      record {
        positions = subst (Each (ArePositionSteps q l.numbers ts)) (sym c.let_go.ensures.positions) tt;
        units = subst (Each (AreUnitSteps q l.numbers ts l.unit_steps.items)) (sym c.let_go.ensures.units) tt;
      },
    )
