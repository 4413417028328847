use Rattle.std.proofs.Common.{take}
use Rattle.schedule_book.proofs.Expanding.{Expanded}
use Rattle.schedule_book.proofs.Numbers.{same}
use Rattle.schedule_book.proofs.SharedNames.{one_name}
use Rattle.schedule_book.specs.Expansions.{Seen}
use Rattle.schedule_book.proofs.expansion.expand.Given as goal

abbrev pub invariant-loop-row : goal.invariant-loop-row
invariant-loop-row l = Expanded l.places (take l.row-index l.rows) l.flights.items × Seen same one_name l.shared l.flights.items l.seen
