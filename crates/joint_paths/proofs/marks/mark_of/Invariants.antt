use Rattle.std.proofs.Common.{List, take}
use Rattle.fare_law.specs.declared.flights.Flight.{Flight}
use Rattle.fare_law.specs.Parts.{Numbers}
use Rattle.flight_paths.specs.Marks.{HasBits}
use Rattle.flight_paths.specs.Ways.{arrivals_of}
use Rattle.joint_paths.proofs.marks.mark_of.Given as goal

abbrev pub invariant-loop-number : goal.invariant-loop-number
invariant-loop-number l = (fs : List Flight) → Numbers l.case.book.now l.numbers fs → HasBits l.mark (take l.number-index (arrivals_of fs))
