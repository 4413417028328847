use Rattle.std.proofs.Common.{◌∙◌, sym, ap, option_map, arith}
use Rattle.fare_law.specs.declared.tickets.Component.{Component}
use Rattle.ticket_whole.specs.Known.{part_of}
use Rattle.ticket_whole.specs.FaresOn.{fare_on}
use Rattle.ticket_whole.proofs.Gathering.{gather_more, gather_skip, gather_all}
use Rattle.law_lemmas.proofs.Lists.{length_more, map_gathered}
use Rattle.ticket_whole.proofs.fares_on.fares_on.Goals as goal

pub loop-component-preserved-in_default : goal.loop-component-preserved-in_default
loop-component-preserved-in_default c =
    let i = c.loop-component.component-index in
    let d = c.component-item.result in (
      λ sale.
          let h = λ (x : Component). option_map fare_on (part_of c.args.book.now sale x) in
          gather_skip h c.loop-component.found _ c.args.components.now i d c.loop-component-test.true (ap h (sym c.component-item.is) ∙ sym (c.fare_on.ensures sale) ∙ c.in_default.is) (c.loop-component.invariant.0 sale),
      omega (arith, c.loop-component.invariant.1),
    )

pub loop-component-preserved : goal.loop-component-preserved
loop-component-preserved c =
    let i = c.loop-component.component-index in
    let d = c.component-item.result in
    rw c.push.ensures (
      λ sale.
          let h = λ (x : Component). option_map fare_on (part_of c.args.book.now sale x) in
          gather_more h c.loop-component.found _ c.in-Some.fare c.args.components.now i d c.loop-component-test.true (ap h (sym c.component-item.is) ∙ sym (c.fare_on.ensures sale) ∙ c.in-Some.is) (c.loop-component.invariant.0 sale),
      length_more c.loop-component.found c.in-Some.fare i c.loop-component.invariant.1,
    )

pub returns : goal.returns
returns c sale =
    gather_all (λ x. option_map fare_on (part_of c.args.book.now sale x)) c.loop-component.found _ c.args.components.now c.loop-component.component-index c.loop-component-test.false (c.loop-component.invariant.0 sale)
    ∙ map_gathered fare_on (part_of c.args.book.now sale) c.args.components.now
