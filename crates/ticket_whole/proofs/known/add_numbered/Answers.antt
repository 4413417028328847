use Rattle.std.proofs.Common.{◌≡◌, ◌∙◌, ◌+◌, sym, Some, get_or, length, slice_get, arith}
use Rattle.fare_law.specs.Limits.{IsFlight}
use Rattle.ticket_whole.proofs.Gathering.{gather_more}
use Rattle.law_lemmas.proofs.EachOne.{each_got, each_more}
use Rattle.law_lemmas.proofs.Lists.{length_more}
use Rattle.ticket_whole.proofs.known.add_numbered.Goals as goal

pub loop-number-preserved : goal.loop-number-preserved
loop-number-preserved c =
    let i = c.loop-number.number-index in
    let f = c.in-Some.flight in
    let found = c.loop-number.found in
    let some : slice_get c.args.flights.now (get_or c.args.numbers.now i 0) ≡ Some f = sym c.flight_numbered.ensures ∙ c.in-Some.is in
    rw c.push.ensures (record {
      flights = gather_more (slice_get c.args.flights.now) found _ f c.args.numbers.now i 0 c.loop-number-test.true some c.loop-number.invariant.flights;
      limits = each_more IsFlight found f c.loop-number.invariant.limits (each_got IsFlight c.args.flights.now (get_or c.args.numbers.now i 0) f c.requires.limits some);
      few = let more = length_more found f (length c.args.found.now + i) c.loop-number.invariant.few in omega (arith, more);
    })
