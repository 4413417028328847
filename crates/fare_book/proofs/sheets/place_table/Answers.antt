use Rattle.std.proofs.Common.{None, Some}
use Rattle.fare_book.proofs.Finding.{market_changes}
use Rattle.fare_book.proofs.Placing.{sheet_else}
use Rattle.fare_book.proofs.sheets.place_table.Goals as goal

pub returns-in_ok-insert-in-Some-clause-others : goal.returns-in_ok-insert-in-Some-clause-others
returns-in_ok-insert-in-Some-clause-others c =
    let old = c.args.sheets.now.entries in
    let new = c.insert.new.self.entries in
    let arc = c.in_ok-sheet-in-Some.sheet in
    sheet_else old new c.args.market (Some arc) (market_changes old new c.args.market (Some arc) c.in_ok-insert-in-Some.ensures.updates.0)

pub returns-in-None-clause-others : goal.returns-in-None-clause-others
returns-in-None-clause-others c =
    let old = c.args.sheets.now.entries in
    let new = c.remove.new.self.entries in
    sheet_else old new c.args.market None (market_changes old new c.args.market None c.remove.ensures.updates.0)
