use Rattle.std.proofs.Common.{◌≡◌, ◌+◌, ◌∷◌, length, take}
use Rattle.ticket_order.proofs.numbers.flight_numbers.Given as goal

abbrev pub invariant-loop-flight : goal.invariant-loop-flight
invariant-loop-flight l = (l.numbers ≡ length l.flights ∷ take l.flight-index l.flights) × (length l.numbers ≡ l.flight-index + 1)
