use Rattle.std.proofs.Common.{take}
use Rattle.fare_law.specs.contracts.names.PlacePartialEq.TheImpl as place
use Rattle.schedule_book.specs.Connects.{Connects}
use Rattle.schedule_book.specs.Faults.{PlacesDiffer}
use Rattle.schedule_book.proofs.places.connects_of.Given as goal

abbrev pub invariant-loop-row : goal.invariant-loop-row
invariant-loop-row l = Connects place.ghosts.eq (take l.row-index l.rows) l.connects × PlacesDiffer (take l.row-index l.rows)
