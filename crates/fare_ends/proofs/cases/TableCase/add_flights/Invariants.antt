use Rattle.std.proofs.Common.{take}
use Rattle.fare_ends.specs.NumberedFlights.{AddsFlights}
use Rattle.fare_law.specs.Limits.{IsFlight}
use Rattle.fare_law.specs.Lists.{Each}
use Rattle.fare_ends.proofs.cases.TableCase.add_flights.Given as goal

abbrev pub invariant-loop-number : goal.invariant-loop-number
invariant-loop-number l = record {
  adds : AddsFlights l.self.book.now (take l.number-index l.numbers) l.initial.flights l.flights;
  limits : Each IsFlight l.flights;
}
