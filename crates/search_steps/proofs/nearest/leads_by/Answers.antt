use Rattle.std.proofs.Common.{ap, subst, sym}
use Rattle.component_table.specs.Tables.{IsTable}
use Rattle.residual_keys.specs.Residuals.{State}
use Rattle.search_steps.specs.Tables.{TableAt}
use Rattle.search_steps.proofs.Kept.{table_there}
use Rattle.search_steps.proofs.nearest.leads_by.Goals as goal

pub leads_of-requires-clause-table : goal.leads_of-requires-clause-table
leads_of-requires-clause-table g c =
    let b = c.args.case.now.book.now in
    let q = c.args.case.now.request.now in
    let x = c.args.residual.now in
    let place = c.in_ok-place.place in
    let at = subst (λ a. TableAt c.find.new.self.kept.items a place) (ap (λ (s : State). s.at) c.residual.view_is) c.in_ok-place.ensures.found in
    let table = table_there b q c.find.new.self.kept.items x.at place c.index-table.result.now c.in_ok-place.ensures.right.tables at c.index-table.ensures in
    subst (IsTable b q x.at) (sym c.as_slice.ensures) table
