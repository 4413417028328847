use Rattle.std.proofs.Common.{◌≡◌, ◌<◌, List, length, get_or, subst, rules, Some, None}
use Rattle.fare_law.specs.declared.tickets.Component.{Component}
use Rattle.ticket_whole.proofs.PriceSums.{one_further, all_priced, costs_told, at_some}
use Rattle.ticket_whole.proofs.pricing.price.Goals as goal

pub returns-in_err-sum-clause-costs : goal.returns-in_err-sum-clause-costs
returns-in_err-sum-clause-costs c =
    let i = c.loop-component.component-index in
    let d = c.component-item.result in
    let lt = subst (λ (xs : List Component). i < length xs) c.as_slice-component-items.ensures.items c.loop-component-test.true in
    let is = subst (λ (xs : List Component). d ≡ get_or xs i d) c.as_slice-component-items.ensures.items c.component-item.is in
    rw c.from_residual.ensures (costs_told c.args.ticket.now c.args.book.now None (at_some c.args.book.now c.args.ticket.now.components i d lt is c.in_err-sum.ensures.value))

pub loop-component-preserved : goal.loop-component-preserved
loop-component-preserved c =
    let i = c.loop-component.component-index in
    let d = c.component-item.result in
    let lt = subst (λ (xs : List Component). i < length xs) c.as_slice-component-items.ensures.items c.loop-component-test.true in
    let is = subst (λ (xs : List Component). d ≡ get_or xs i d) c.as_slice-component-items.ensures.items c.component-item.is in
    one_further c.args.book.now c.args.ticket.now.components i c.loop-component.sum d c.in_ok-sum.field-0 c.loop-component.invariant lt is c.in_ok-sum.ensures.value c.in_ok-sum.ensures.low

pub returns-clause-costs : goal.returns-clause-costs
returns-clause-costs c = costs_told c.args.ticket.now c.args.book.now (Some c.loop-component.sum) (all_priced c.args.book.now c.args.ticket.now c.loop-component.component-index c.loop-component.sum c.loop-component.invariant (search rules))
