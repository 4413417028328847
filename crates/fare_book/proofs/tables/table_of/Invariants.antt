use Rattle.std.proofs.Common.{take}
use Rattle.fare_book.specs.Tables.{fares_in}
use Rattle.fare_book.proofs.TableRows.{RowsIn}
use Rattle.fare_book.proofs.tables.table_of.Given as goal

abbrev pub invariant-loop-row : goal.invariant-loop-row
invariant-loop-row l = RowsIn (take l.row-index l.rows) (fares_in l.table)
