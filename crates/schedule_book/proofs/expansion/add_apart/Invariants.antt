use Rattle.std.proofs.Common.{pos, ◌+ℤ◌}
use Rattle.schedule_book.proofs.Numbers.{same}
use Rattle.schedule_book.proofs.RowFlights.{SoFar}
use Rattle.schedule_book.specs.Expansions.{AllDiffer}
use Rattle.schedule_book.proofs.expansion.add_apart.Given as goal

abbrev pub invariant-loop-offset : goal.invariant-loop-offset
invariant-loop-offset l = SoFar l.row (l.row.first +ℤ pos l.offset) l.initial.flights.items l.flights.items × AllDiffer same l.flights.items
