use Rattle.std.proofs.Common.{pos, ◌+ℤ◌}
use Rattle.schedule_book.proofs.Numbers.{same}
use Rattle.schedule_book.proofs.RowFlights.{SoFar}
use Rattle.schedule_book.specs.Expansions.{AllDiffer, StillSeen}
use Rattle.schedule_book.proofs.expansion.add_unseen.Given as goal

abbrev pub invariant-loop-offset : goal.invariant-loop-offset
invariant-loop-offset l =
    SoFar l.row (l.row.first +ℤ pos l.offset) l.initial.flights.items l.flights.items × AllDiffer same l.flights.items × StillSeen same l.initial.flights.items l.initial.seen l.flights.items l.seen
