use Rattle.std.proofs.Common.{◌≡◌, ◌∙◌, sym, Some, get_or, slice_get, arith}
use Rattle.fare_law.specs.Limits.{IsFlight}
use Rattle.ticket_whole.proofs.KnownGathering.{gather_more, gather_skip}
use Rattle.law_lemmas.proofs.EachOne.{each_got, each_more}
use Rattle.law_lemmas.proofs.Lists.{length_more}
use Rattle.ticket_whole.proofs.component_flights.numbered.Goals as goal

pub loop-number-preserved-in_default : goal.loop-number-preserved-in_default
loop-number-preserved-in_default c =
    let i = c.loop-number.number-index in
    (gather_skip (slice_get c.args.flights.now) c.loop-number.found c.args.numbers.now i 0 c.loop-number-test.true (sym c.flight_numbered.ensures ∙ c.in_default.is) c.loop-number.invariant.0, omega (arith, c.loop-number.invariant.1), c.loop-number.invariant.2)

pub loop-number-preserved : goal.loop-number-preserved
loop-number-preserved c =
    let i = c.loop-number.number-index in
    let f = c.in-Some.flight in
    let some : slice_get c.args.flights.now (get_or c.args.numbers.now i 0) ≡ Some f = sym c.flight_numbered.ensures ∙ c.in-Some.is in
    rw c.push.ensures (
      gather_more (slice_get c.args.flights.now) c.loop-number.found f c.args.numbers.now i 0 c.loop-number-test.true some c.loop-number.invariant.0,
      length_more c.loop-number.found f i c.loop-number.invariant.1,
      each_more IsFlight c.loop-number.found f c.loop-number.invariant.2 (each_got IsFlight c.args.flights.now (get_or c.args.numbers.now i 0) f c.requires.limits some),
    )
