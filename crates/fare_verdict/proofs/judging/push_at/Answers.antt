use Rattle.std.proofs.Common.{◌≡◌, ◌+◌, List, take, get_or, sym, ap, subst, arith}
use Rattle.std.proofs.lemmas.Result.{on_ok_weaker}
use Rattle.fare_law.specs.declared.tickets.Component.{Component}
use Rattle.fare_verdict.specs.declared.finding.Finding.{Finding}
use Rattle.fare_verdict.specs.Findings.{Fails}
use Rattle.fare_verdict.specs.Told.{AreCategories}
use Rattle.fare_verdict.proofs.Stands.{added_at}
use Rattle.fare_verdict.proofs.judging.push_at.Goals as goal

pub returns : goal.returns
returns c =
    let b = c.args.book.now in
    let q = c.args.request.now in
    let t = c.args.ticket.now in
    let demand = c.args.asked.demand in
    let at = c.args.at in
    let x = c.index-components-at.result in
    let front = c.split_at.result.0.now in
    let items = c.as_slice-components.ensures.items in
    let ks = c.as_slice.result.now in
    let first : Finding = record { rule = c.args.asked.rule; component = at + 1; unit = x.unit; category = 0 } in
    let here : x ≡ get_or t.components at x = subst (λ (xs : List Component). x ≡ get_or xs at x) items c.index-components-at.is in
    let before : front ≡ take at t.components = subst (λ (xs : List Component). front ≡ take at xs) items c.split_at.ensures.front in
    let told : AreCategories (λ k. Fails b q t demand k front x) ks = subst (λ xs. AreCategories (λ k. Fails b q t demand k front x) xs) (sym c.as_slice.ensures.items) c.failing-categories.ensures in
    let categories : AreCategories (λ k. Fails b q t demand k (take at t.components) (get_or t.components at x)) ks =
    subst (λ y. AreCategories (λ k. Fails b q t demand k (take at t.components) y) ks) here
    (subst (λ xs. AreCategories (λ k. Fails b q t demand k xs x) ks) before told) in
    on_ok_weaker c.push_each.result
    (λ e. added_at b q t demand first at x ks c.args.found.now c.push_each.new.found c.requires.one c.requires.rule (omega arith) (ap (λ (y : Component). y.unit) here) categories e)
    c.push_each.ensures
