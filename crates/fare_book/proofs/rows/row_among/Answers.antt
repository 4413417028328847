use Rattle.std.proofs.Common.{rules}
use Rattle.std.proofs.lemmas.Fn.{always_returns_same}
use Rattle.fare_law.specs.declared.sheets.SheetRow.{SheetRow}
use Rattle.fare_book.specs.Rows.{key_order}
use Rattle.fare_book.proofs.RowOrder.{held_at, none_held, rows_rise}
use Rattle.fare_book.proofs.rows.row_among.Goals as goal

pub returns-in-Ok : goal.returns-in-Ok
returns-in-Ok c =
    let ord = λ (row : SheetRow). key_order row.fare.key c.args.key.now in
    held_at c.args.key.now c.args.rows.now c.in-Ok.at c.index-rows-at.result c.in-Ok.ensures.bound c.index-rows-at.is (c.in-Ok.ensures.position ord (always_returns_same _ _ _ (λ a r q k. search rules)))

pub returns-in-Err : goal.returns-in-Err
returns-in-Err c =
    let ord = λ (row : SheetRow). key_order row.fare.key c.args.key.now in
    let point = c.in-Err.ensures.position ord (always_returns_same _ _ _ (λ a r q k. search rules)) (rows_rise c.args.key.now c.args.rows.now c.requires) in
    none_held c.args.key.now c.args.rows.now c.in-Err.field-0 point.0 point.1
