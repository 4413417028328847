use Rattle.std.proofs.Common.{refl}
use Rattle.answer_text.specs.Lines.{FlightLine}
use Rattle.answer_text.proofs.TicketTexts.{all_of, flights_added, one_added}
use Rattle.answer_text.proofs.tickets.push_flights.Goals as goal

pub loop-flight-preserved : goal.loop-flight-preserved
loop-flight-preserved c =
    one_added (λ m f text. FlightLine f text) c.args.flights.now c.loop-flight.flight-index _ _ c.args.text.now.items c.loop-flight.text.items c.push_flight.new.text.items c.loop-flight-test.true refl c.loop-flight.invariant c.in_ok-push_flight.ensures

pub returns : goal.returns
returns c = flights_added c.args.flights.now c.args.text.now.items c.loop-flight.text.items (all_of (λ m f text. FlightLine f text) c.args.flights.now c.loop-flight.flight-index c.args.text.now.items c.loop-flight.text.items c.loop-flight-test.false c.loop-flight.invariant)
