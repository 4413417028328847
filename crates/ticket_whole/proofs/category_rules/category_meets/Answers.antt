use Rattle.std.proofs.Common.{◌≡◌, ◌↔◌, ◌==◌, ◌∙◌, rules, ℤ, w32, to_z, of_z, Bool, IfSome, IsTrue, List, ap, filter, subst, sym}
use mir.Val.{SFits}
use Rattle.std.proofs.lemmas.Int.{to_z-of_z}
use Rattle.fare_law.specs.declared.tickets.Component.{Component}
use Rattle.fare_law.specs.Book.{Book}
use Rattle.fare_law.specs.Days.{IsCalendarDay}
use Rattle.fare_law.specs.Lists.{Each}
use Rattle.ticket_whole.specs.declared.demand.CategoryDemand.{CategoryDemand}
use Rattle.ticket_whole.specs.declared.stretch.Stretch.{Stretch}
use Rattle.ticket_whole.specs.Categories.{CategoryHolds}
use Rattle.ticket_whole.specs.Known.{part_of, parts_of}
use Rattle.ticket_whole.specs.Stretches.{facts_of}
use Rattle.ticket_whole.proofs.CategoryTold.{component_held}
use Rattle.ticket_whole.proofs.KnownGathering.{each_filter}
use Rattle.ticket_whole.proofs.category_rules.category_meets.Goals as goal

plain : (z : ℤ) → SFits w32 z → to_z w32 (of_z w32 z) ≡ z
plain z f = to_z-of_z w32 z f

abbrev Asked : Bool → Book → Component → CategoryDemand → List Stretch → ℤ → Type 0
Asked result b c demand unit sale = IsTrue result ↔ IfSome (part_of b sale c) (λ part. IfSome (facts_of unit) (λ facts. CategoryHolds sale part.piece.rule facts demand))

pub meets_among-requires-clause-days : goal.meets_among-requires-clause-days
meets_among-requires-clause-days c =
    subst (Each (λ (s : Stretch). IsCalendarDay s.first_day)) (sym (c.as_slice-2.ensures.items ∙ c.unit_of-unit.ensures)) (each_filter _ _ c.as_slice.result.now (rw c.as_slice.ensures.items c.stretches_of-stretches.ensures.days))

pub returns : goal.returns
returns c =
    let b = c.args.book.now in
    let sale = c.args.sale in
    let component = c.args.component.now in
    let demand = c.args.demand in
    let result = c.meets_among.result in
    let stretches = c.as_slice.ensures.items ∙ c.stretches_of-stretches.ensures.value sale in
    let is = c.as_slice-2.ensures.items ∙ c.unit_of-unit.ensures ∙ ap (λ (ss : List Stretch). filter (λ s. s.unit == component.unit) ss) stretches in
    let on_day = subst (Asked result b component demand c.as_slice-2.result.now) (plain sale (search rules)) c.meets_among.ensures in
    let asked = subst (λ (ss : List Stretch). Asked result b component demand ss sale) is on_day in
    let told = component_held b sale component (parts_of b sale c.args.components.now) demand in
    (λ t. told.0 (asked.0 t), λ h. asked.1 (told.1 h))
