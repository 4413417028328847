use Rattle.std.proofs.Common.{Some}
use Rattle.fare_book.proofs.Finding.{market_changes}
use Rattle.fare_book.proofs.Placing.{touched_holds, touched_stays}
use Rattle.fare_book.proofs.sheets.touch.Goals as goal

pub returns-clause-holds : goal.returns-clause-holds
returns-clause-holds c = λ fare rule changed keyed holds m.
    let old = c.args.tables.now.entries in
    let mid = c.take_table.new.tables.entries in
    let new = c.insert.new.self.entries in
    let t = c.in_ok-table.table in
    touched_holds old mid new c.args.market t c.in_ok-table.ensures.others (market_changes mid new c.args.market (Some t) c.in_ok-insert.ensures.updates.0) fare rule changed c.args.sheets.now.entries
    (c.in_ok-table.ensures.table fare rule changed keyed (holds c.args.market)) holds m

pub returns-clause-stay : goal.returns-clause-stay
returns-clause-stay c = λ m h.
    let old = c.args.tables.now.entries in
    let mid = c.take_table.new.tables.entries in
    let new = c.insert.new.self.entries in
    let t = c.in_ok-table.table in
    touched_stays old mid new c.args.market t c.in_ok-table.ensures.others (market_changes mid new c.args.market (Some t) c.in_ok-insert.ensures.updates.0) m h
