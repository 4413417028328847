use Rattle.std.proofs.Common.{◌∙◌, ◌+◌, ◌++◌, ap, drop, length, arith}
use Rattle.fare_law.specs.declared.tickets.Component.{Component}
use Rattle.ticket_whole.specs.Breaches.{flights_of}
use Rattle.ticket_whole.specs.Known.{known_flights}
use Rattle.ticket_whole.proofs.Gathering.{join_more}
use Rattle.ticket_whole.proofs.KnownFlights.{numbered_same}
use Rattle.ticket_whole.proofs.known.flights_of.Goals as goal

pub loop-component-preserved : goal.loop-component-preserved
loop-component-preserved c =
    let b = c.args.book.now in
    let cs = c.args.components.now in
    let i = c.loop-component.component-index in
    let d = c.component-item.result in
    let found = c.loop-component.found in
    let known = numbered_same _ _ _ _ c.all_flights-flights.ensures.flights c.as_slice.ensures.items ∙ ap (λ (x : Component). known_flights b x.flights) c.component-item.is in
    record {
      flights = ap (λ fs. fs ++ flights_of b (drop (i + 1) cs)) (c.add_numbered.ensures.flights ∙ ap (λ fs. found ++ fs) known)
          ∙ join_more (λ (x : Component). known_flights b x.flights) found _ cs i d c.loop-component-test.true c.loop-component.invariant.flights;
      limits = c.add_numbered.ensures.limits;
      few = omega (arith, c.add_numbered.ensures.few, c.as_slice.ensures.fits, ap length c.as_slice.ensures.items, c.loop-component.invariant.few);
    }
