use Rattle.std.proofs.Common.{◌∙◌, sym, subst, ap, option_map, IfSome, arith}
use Rattle.fare_law.specs.Days.{IsCalendarDay}
use Rattle.fare_law.specs.declared.tickets.Component.{Component}
use Rattle.ticket_whole.specs.declared.stretch.Stretch.{Stretch}
use Rattle.ticket_whole.specs.Known.{part_of}
use Rattle.ticket_whole.specs.Stretches.{stretch_of}
use Rattle.ticket_whole.proofs.KnownGathering.{gather_more, gather_skip, gather_all}
use Rattle.law_lemmas.proofs.EachOne.{each_more}
use Rattle.law_lemmas.proofs.Lists.{length_more, map_gathered}
use Rattle.ticket_whole.proofs.stretch.stretches_of.Goals as goal

abbrev HasDay : Stretch → Type 0
HasDay s = IsCalendarDay s.first_day

pub loop-component-preserved-in_default : goal.loop-component-preserved-in_default
loop-component-preserved-in_default c =
    let i = c.loop-component.component-index in
    let d = c.component-item.result in (
      λ sale.
          let h = λ (x : Component). option_map stretch_of (part_of c.args.book.now sale x) in
          gather_skip h c.loop-component.found c.args.components.now i d c.loop-component-test.true (ap h (sym c.component-item.is) ∙ sym (c.stretch_of.ensures.value sale) ∙ c.in_default.is) (c.loop-component.invariant.0 sale),
      omega (arith, c.loop-component.invariant.1),
      c.loop-component.invariant.2,
    )

pub loop-component-preserved : goal.loop-component-preserved
loop-component-preserved c =
    let i = c.loop-component.component-index in
    let d = c.component-item.result in
    rw c.push.ensures (
      λ sale.
          let h = λ (x : Component). option_map stretch_of (part_of c.args.book.now sale x) in
          gather_more h c.loop-component.found c.in-Some.stretch c.args.components.now i d c.loop-component-test.true (ap h (sym c.component-item.is) ∙ sym (c.stretch_of.ensures.value sale) ∙ c.in-Some.is) (c.loop-component.invariant.0 sale),
      length_more c.loop-component.found c.in-Some.stretch i c.loop-component.invariant.1,
      each_more HasDay c.loop-component.found c.in-Some.stretch c.loop-component.invariant.2 (subst (λ o. IfSome o HasDay) c.in-Some.is c.stretch_of.ensures.day),
    )

pub returns-clause-value : goal.returns-clause-value
returns-clause-value c sale =
    gather_all (λ x. option_map stretch_of (part_of c.args.book.now sale x)) c.loop-component.found c.args.components.now c.loop-component.component-index c.loop-component-test.false (c.loop-component.invariant.0 sale)
    ∙ map_gathered stretch_of (part_of c.args.book.now sale) c.args.components.now
