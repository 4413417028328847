use Rattle.std.proofs.Common.{List, take}
use Rattle.fare_law.specs.declared.flights.Flight.{Flight}
use Rattle.flight_paths.specs.Marks.{HasBits}
use Rattle.flight_paths.specs.Ways.{AreFlightsOf, arrivals_of}
use Rattle.flight_paths.proofs.marks.mark_of_flights.Given as goal

abbrev pub invariant-loop-number : goal.invariant-loop-number
invariant-loop-number l = (fs : List Flight) → AreFlightsOf l.flights l.numbers fs → HasBits l.mark (take l.number-index (arrivals_of fs))
