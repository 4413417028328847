use Rattle.std.proofs.Common.{subst, sym}
use Rattle.fare_law.specs.Lists.{Each}
use Rattle.search_steps.specs.Numbers.{ArePositionSteps, AreUnitSteps}
use Rattle.search_steps.specs.Tables.{IsOwnTable}
use Rattle.search_steps.proofs.numbered_case.NumberedCase.let_go.Goals as goal

pub invariant_of-self : goal.invariant_of-self
invariant_of-self c =
    let b = c.self.inside.case.book.now in
    let q = c.self.inside.case.request.now in
    let ts = c.new.result.kept.items in
    let l = c.let_go.new.self in (
      record {
        tables = subst (Each (IsOwnTable b q)) (sym c.new.ensures.kept) tt;
        network = c.new.ensures.network b q;
      },
      record {
        positions = subst (Each (ArePositionSteps q l.numbers ts)) (sym c.let_go.ensures.positions) tt;
        units = subst (Each (AreUnitSteps q l.numbers ts l.unit_steps.items)) (sym c.let_go.ensures.units) tt;
      },
    )
