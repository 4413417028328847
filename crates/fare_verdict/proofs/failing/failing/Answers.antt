use Rattle.std.proofs.Common.{suc, length, sym, subst}
use Rattle.ticket_whole.specs.declared.demand.Demand.TheVariants.{Labels}
use Rattle.ticket_whole.specs.Breaches.{ComponentMeets, FirstBroken}
use Rattle.fare_verdict.specs.Findings.{Fails, component_category}
use Rattle.fare_verdict.specs.Told.{AreCategories}
use Rattle.fare_verdict.proofs.Categories.{held_told, one_told}
use Rattle.fare_verdict.proofs.failing.failing.Goals as goal

pub returns-in-OfComponent : goal.returns-in-OfComponent
returns-in-OfComponent c =
    let b = c.args.book.now in
    let q = c.args.request.now in
    let t = c.args.ticket.now in
    let e = c.in-OfComponent.demand in
    subst (λ d. AreCategories (λ k. Fails b q t d k c.args.before.now c.args.component.now) c.one_failing.result) (sym c.in-OfComponent.is)
    (one_told c.component_meets.result (ComponentMeets b q.party e c.args.component.now) c.component_category.result (component_category e) c.one_failing.result
    c.component_meets.ensures c.component_category.ensures c.one_failing.ensures)

pub returns-in-Labels : goal.returns-in-Labels
returns-in-Labels c =
    let b = c.args.book.now in
    let q = c.args.request.now in
    let t = c.args.ticket.now in
    subst (λ d. AreCategories (λ k. Fails b q t d k c.args.before.now c.args.component.now) c.one_failing-in-Labels.result) (sym c.in-Labels.is)
    (held_told c.is_first_wrong.result (FirstBroken b q t Labels (suc (length c.args.before.now))) 0 c.one_failing-in-Labels.result c.is_first_wrong.ensures c.one_failing-in-Labels.ensures)
