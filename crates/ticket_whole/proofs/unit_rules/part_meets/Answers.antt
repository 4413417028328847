use Rattle.std.proofs.Common.{◌≡◌, ◌↔◌, ◌==◌, ◌∙◌, rules, ℤ, w32, to_z, of_z, Bool, IfSome, IsTrue, List, filter, subst}
use mir.Val.{SFits}
use Rattle.std.proofs.lemmas.Int.{to_z-of_z}
use Rattle.fare_law.specs.declared.tickets.Component.{Component}
use Rattle.fare_law.specs.Book.{Book}
use Rattle.ticket_whole.specs.declared.demand.UnitDemand.{UnitDemand}
use Rattle.ticket_whole.specs.declared.stretch.Stretch.{Stretch}
use Rattle.ticket_whole.specs.Known.{part_of, parts_of}
use Rattle.ticket_whole.specs.Stretches.{StretchesMeet}
use Rattle.ticket_whole.proofs.PartTold.{component_told}
use Rattle.ticket_whole.proofs.unit_rules.part_meets.Goals as goal

plain : (z : ℤ) → SFits w32 z → to_z w32 (of_z w32 z) ≡ z
plain z f = to_z-of_z w32 z f

abbrev Asked : Bool → Book → Component → UnitDemand → List Stretch → ℤ → Type 0
Asked result b c demand ss sale =
    IsTrue result ↔ IfSome (part_of b sale c) (λ part. StretchesMeet sale (record { fare = part.piece.fare; rule = part.piece.rule }) (filter (λ s. s.unit == c.unit) ss) demand)

pub unit_meets-requires-clause-days : goal.unit_meets-requires-clause-days
unit_meets-requires-clause-days c = rw c.as_slice.ensures.items c.stretches_of-stretches.ensures.days

pub returns : goal.returns
returns c =
    let b = c.args.book.now in
    let sale = c.args.sale in
    let component = c.args.component.now in
    let demand = c.args.demand in
    let result = c.unit_meets.result in
    let is = c.as_slice.ensures.items ∙ c.stretches_of-stretches.ensures.value sale in
    let on_day = subst (Asked result b component demand c.as_slice.result.now) (plain sale (search rules)) c.unit_meets.ensures in
    let asked = subst (λ (ss : List Stretch). Asked result b component demand ss sale) is on_day in
    let told = component_told b sale component (parts_of b sale c.args.components.now) demand in
    (λ t. told.0 (asked.0 t), λ h. asked.1 (told.1 h))
