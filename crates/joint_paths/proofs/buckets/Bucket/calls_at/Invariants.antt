use Rattle.std.proofs.Common.{◌≢◌, List, take}
use Rattle.fare_law.specs.declared.flights.Flight.{Flight}
use Rattle.fare_law.specs.Lists.{Each}
use Rattle.fare_law.specs.Parts.{Numbers}
use Rattle.flight_paths.specs.Ways.{arrivals_of}
use Rattle.joint_paths.proofs.buckets.Bucket.calls_at.Given as goal

abbrev pub invariant-loop-number : goal.invariant-loop-number
invariant-loop-number l = (fs : List Flight) → Numbers l.self.case.now.book.now l.numbers fs → Each (λ p. l.place ≢ p) (take l.number-index (arrivals_of fs))
