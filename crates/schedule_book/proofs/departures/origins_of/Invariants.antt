use Rattle.std.proofs.Common.{◌≡◌, ◌++◌, drop, map}
use Rattle.schedule_book.specs.Departures.{origins, packed}
use Rattle.schedule_book.proofs.departures.origins_of.Given as goal

abbrev pub invariant-loop-i : goal.invariant-loop-i
invariant-loop-i l = l.keys.items ++ map packed (origins l.i (drop l.i l.flights)) ≡ map packed (origins 0 l.flights)
