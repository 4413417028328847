use Rattle.std.proofs.Common.{◌≡◌, ◌≢◌, List, slice_get, Some, take}
use Rattle.fare_law.specs.declared.flights.Flight.{Flight}
use Rattle.fare_law.specs.Lists.{Each}
use Rattle.fare_law.specs.Parts.{Numbers}
use Rattle.flight_paths.specs.declared.positions.Path.{Path}
use Rattle.flight_paths.specs.Ways.{arrivals_of}
use Rattle.joint_paths.proofs.buckets.Bucket.calls_at_one.Given as goal

abbrev pub invariant-loop-number : goal.invariant-loop-number
invariant-loop-number l = (path : Path) → slice_get l.self.paths.now l.tail.number ≡ Some path → (fs gs : List Flight) → Numbers l.self.case.now.book.now l.numbers fs → Numbers l.self.case.now.book.now path.flights gs → Each (λ p. Each (λ q. p ≢ q) (arrivals_of gs)) (take l.number-index (arrivals_of fs))
