use Rattle.std.proofs.Common.{take}
use Rattle.schedule_book.proofs.SharedNames.{Names}
use Rattle.schedule_book.proofs.expansion.shared_names.Given as goal

abbrev pub invariant-loop-row : goal.invariant-loop-row
invariant-loop-row l = Names (take l.row-index l.rows) l.names l.shared
