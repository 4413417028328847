use Rattle.std.proofs.Common.{subst, sym}
use Rattle.fare_law.specs.Lists.{Each}
use Rattle.search_steps.specs.Numbers.{ArePositionSteps, AreUnitSteps}
use Rattle.search_steps.specs.Tables.{IsOwnTable}
use Rattle.search_steps.proofs.numbered_case.NumberedCase.over.Goals as goal

pub invariant_of-result : goal.invariant_of-result
invariant_of-result c =
    let b = c.args.case.book.now in
    let q = c.args.case.request.now in
    let ts = c.new.result.kept.items in
    let l = c.over.result in (
      record {
        tables = subst (Each (IsOwnTable b q)) (sym c.new.ensures.kept) tt;
        network = c.new.ensures.network b q;
      },
      record {
        positions = subst (Each (ArePositionSteps q l.numbers ts)) (sym c.over.ensures.positions) tt;
        units = subst (Each (AreUnitSteps q l.numbers ts l.unit_steps.items)) (sym c.over.ensures.units) tt;
      },
    )
