use Rattle.std.proofs.Common.{subst}
use Rattle.std.proofs.lemmas.List.{take_all}
use Rattle.fare_book.specs.Tables.{fares_in}
use Rattle.fare_book.proofs.TableRows.{RowsIn, rows_more, rows_none}
use Rattle.fare_book.proofs.tables.table_of.Goals as goal

pub loop-row-init : goal.loop-row-init
loop-row-init c = rows_none c.new.result.entries c.new.ensures.empty

pub loop-row-preserved : goal.loop-row-preserved
loop-row-preserved c =
    rows_more c.args.rows.now c.loop-row.row-index c.row-item.result c.row-item.result c.loop-row-test.true c.row-item.is (fares_in c.loop-row.table) (fares_in c.put_fare_in.new.table) c.in_ok-put_fare_in.ensures.puts c.loop-row.invariant

pub returns : goal.returns
returns c = subst (λ rows. RowsIn rows (fares_in c.loop-row.table)) (take_all c.loop-row.row-index c.args.rows.now c.loop-row-test.false) c.loop-row.invariant
