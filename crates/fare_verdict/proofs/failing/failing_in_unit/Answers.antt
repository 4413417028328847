use Rattle.std.proofs.Common.{◌≡◌, ◌⊎◌, ◌↔◌, IsTrue, ℤ, w32, to_z, of_z, map, true, sym, ◌∙◌, subst, inl, inr, arith}
use Rattle.std.proofs.lemmas.Int.{ints}
use Rattle.fare_law.specs.Lawful.{comes_in}
use Rattle.ticket_whole.specs.declared.demand.CategoryDemand.TheVariants.{Season, Advance, LeastStay, GreatestStay}
use Rattle.ticket_whole.specs.declared.demand.UnitDemand.TheVariants.{FareKind, TravelDates, Combination}
use Rattle.fare_law.specs.Days.{IsCalendarDay}
use Rattle.fare_verdict.specs.Findings.{FailsInUnit}
use Rattle.fare_verdict.specs.Told.{AreCategories}
use Rattle.fare_verdict.proofs.Categories.{category_told, shape_told, two_told, unit_told}
use Rattle.fare_verdict.proofs.failing.failing_in_unit.Goals as goal
use Rattle.fare_verdict.proofs.failing.failing_in_unit.Goals.{then-meets, else-meets}

plain : (z : ℤ) → IsCalendarDay z → to_z w32 (of_z w32 z) ≡ z
plain z h = omega (arith, ints, h.0, h.1)

pub returns-after-meets : goal.returns-after-meets
returns-after-meets c =
    let passed : IsTrue c.if-meets.one_failing ↔ (IsTrue c.part_meets-meets.result ⊎ (comes_in c.args.component.now.unit (map (λ x. x.unit) c.args.before.now) ≡ true)) = elim c.if-meets.branch [
      | then-meets w ↦ (λ h. inl w.if-meets.true, λ h. w.one_failing-is ∙ w.if-meets.true)
      | else-meets w ↦ (
        λ h. inr (w.has_label.ensures.0 (sym w.one_failing-is ∙ h)),
        λ h. elim h [ inl m ↦ let f = w.if-meets.false in absurd (cc) | inr e ↦ w.one_failing-is ∙ w.has_label.ensures.1 e ],
      )
    ] in
    shape_told c.args.book.now c.args.request.now c.args.ticket.now c.args.before.now c.args.component.now c.as_slice-components.result.now
    (to_z w32 (of_z w32 c.args.request.now.sale)) c.as_slice-components.ensures.items (plain c.args.request.now.sale c.requires.request.sale)
    c.args.demand c.if-meets.one_failing c.part_meets-meets.result c.one_failing.result c.in-Shape.is passed c.part_meets-meets.ensures c.one_failing.ensures

pub returns-in-FareKind : goal.returns-in-FareKind
returns-in-FareKind c =
    unit_told c.args.book.now c.args.request.now c.args.ticket.now c.args.before.now c.args.component.now c.as_slice-components.result.now
    (to_z w32 (of_z w32 c.args.request.now.sale)) c.as_slice-components.ensures.items (plain c.args.request.now.sale c.requires.request.sale)
    FareKind c.args.demand 0 c.part_meets-meets.result c.one_failing-in-FareKind.result c.in-FareKind.is (λ k h. h) (λ k h. h) c.part_meets-meets.ensures c.one_failing-in-FareKind.ensures

pub returns-in-FirstDay : goal.returns-in-FirstDay
returns-in-FirstDay c =
    let b = c.args.book.now in
    let q = c.args.request.now in
    let t = c.args.ticket.now in
    let before = c.args.before.now in
    let comp = c.args.component.now in
    let cs = c.as_slice-components.result.now in
    let sale = to_z w32 (of_z w32 q.sale) in
    let items = c.as_slice-components.ensures.items in
    let day = plain q.sale c.requires.request.sale in
    subst (λ d. AreCategories (λ k. FailsInUnit b q t d k before comp) c.two_failing.result) (sym c.in-FirstDay.is)
    (two_told c.category_meets.result c.category_meets-in-FirstDay.result _ _ 3 5 c.two_failing.result
    (category_told b q t before comp cs sale items day Season c.category_meets.result c.category_meets.ensures)
    (category_told b q t before comp cs sale items day Advance c.category_meets-in-FirstDay.result c.category_meets-in-FirstDay.ensures) c.two_failing.ensures)

pub returns-in-TravelDates : goal.returns-in-TravelDates
returns-in-TravelDates c =
    unit_told c.args.book.now c.args.request.now c.args.ticket.now c.args.before.now c.args.component.now c.as_slice-components.result.now
    (to_z w32 (of_z w32 c.args.request.now.sale)) c.as_slice-components.ensures.items (plain c.args.request.now.sale c.requires.request.sale)
    TravelDates c.args.demand 14 c.part_meets-meets.result c.one_failing-in-TravelDates.result c.in-TravelDates.is (λ k h. h) (λ k h. h) c.part_meets-meets.ensures c.one_failing-in-TravelDates.ensures

pub returns-in-Stay : goal.returns-in-Stay
returns-in-Stay c =
    let b = c.args.book.now in
    let q = c.args.request.now in
    let t = c.args.ticket.now in
    let before = c.args.before.now in
    let comp = c.args.component.now in
    let cs = c.as_slice-components.result.now in
    let sale = to_z w32 (of_z w32 q.sale) in
    let items = c.as_slice-components.ensures.items in
    let day = plain q.sale c.requires.request.sale in
    subst (λ d. AreCategories (λ k. FailsInUnit b q t d k before comp) c.two_failing-in-Stay.result) (sym c.in-Stay.is)
    (two_told c.category_meets-in-Stay.result c.category_meets-in-Stay-2.result _ _ 6 7 c.two_failing-in-Stay.result
    (category_told b q t before comp cs sale items day LeastStay c.category_meets-in-Stay.result c.category_meets-in-Stay.ensures)
    (category_told b q t before comp cs sale items day GreatestStay c.category_meets-in-Stay-2.result c.category_meets-in-Stay-2.ensures) c.two_failing-in-Stay.ensures)

pub returns-in-Combination : goal.returns-in-Combination
returns-in-Combination c =
    unit_told c.args.book.now c.args.request.now c.args.ticket.now c.args.before.now c.args.component.now c.as_slice-components.result.now
    (to_z w32 (of_z w32 c.args.request.now.sale)) c.as_slice-components.ensures.items (plain c.args.request.now.sale c.requires.request.sale)
    Combination c.args.demand 10 c.part_meets-meets.result c.one_failing-in-Combination.result c.in-Combination.is (λ k h. h) (λ k h. h) c.part_meets-meets.ensures c.one_failing-in-Combination.ensures
