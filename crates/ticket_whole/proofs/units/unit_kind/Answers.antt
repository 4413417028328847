use Rattle.std.proofs.Common.{◌≡◌, ◌==◌, ◌∙◌, ℕ, List, Option, None, Some, ap, filter, map, subst, sym}
use Rattle.fare_law.specs.Lawful.{unit_of}
use Rattle.fare_law.specs.Parts.{Part}
use Rattle.ticket_whole.specs.declared.stretch.Stretch.{Stretch}
use Rattle.ticket_whole.specs.declared.units.UnitFacts.{UnitFacts}
use Rattle.ticket_whole.specs.Known.{parts_of}
use Rattle.ticket_whole.specs.Stretches.{facts_of, stretch_of}
use Rattle.ticket_whole.proofs.KindTable.{FactsTold}
use Rattle.ticket_whole.proofs.PartTold.{unit_told}
use Rattle.ticket_whole.proofs.units.unit_kind.Goals as goal

-- what was told of the unit's stretches is told of its parts
told : (parts : List Part) (label : ℕ) (ss unit : List Stretch) (o : Option UnitFacts) → ss ≡ map stretch_of parts → unit ≡ filter (λ s. s.unit == label) ss → o ≡ facts_of unit → FactsTold o (unit_of label parts)
told parts label ss unit o e f g =
    subst (λ (x : Option UnitFacts). FactsTold x (unit_of label parts)) (sym (g ∙ ap facts_of (f ∙ ap (λ (xs : List Stretch). filter (λ s. s.unit == label) xs) e))) (unit_told parts label)

pub returns-in_err-facts : goal.returns-in_err-facts
returns-in_err-facts c sale =
    rw c.from_residual.ensures
    (told (parts_of c.args.book.now sale c.args.components.now) c.args.label c.as_slice.result.now c.as_slice-2.result.now None
    (c.as_slice.ensures.items ∙ c.stretches_of-stretches.ensures.value sale) (c.as_slice-2.ensures.items ∙ c.unit_of-unit.ensures) c.in_err-facts.ensures)

pub returns : goal.returns
returns c sale =
    (told (parts_of c.args.book.now sale c.args.components.now) c.args.label c.as_slice.result.now c.as_slice-2.result.now (Some c.in_ok-facts.facts)
    (c.as_slice.ensures.items ∙ c.stretches_of-stretches.ensures.value sale) (c.as_slice-2.ensures.items ∙ c.unit_of-unit.ensures) c.in_ok-facts.ensures).kind
