use Rattle.std.proofs.Common.{take}
use Rattle.answer_text.specs.Lines.{FlightLine}
use Rattle.answer_text.proofs.TicketTexts.{Added}
use Rattle.answer_text.proofs.tickets.push_flights.Given as goal

abbrev pub invariant-loop-flight : goal.invariant-loop-flight
invariant-loop-flight l = Added 1 (λ m f text. FlightLine f text) (take l.flight-index l.flights) l.fn.text.items l.text.items
