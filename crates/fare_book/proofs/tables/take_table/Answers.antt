use Rattle.std.proofs.Common.{◌≡◌, None, Some, cond, sym, ap, subst, ◌∙◌}
use Rattle.std.specs.Map.{lookup}
use Rattle.fare_book.specs.Keys.{same_market}
use Rattle.fare_book.specs.Tables.{fares_in}
use Rattle.fare_book.proofs.Finding.{market_changes, market_found}
use Rattle.fare_book.proofs.TableRows.{RowsIn, old_table}
use Rattle.law_lemmas.proofs.Options.{if_ok}
use Rattle.fare_book.proofs.tables.take_table.Goals as goal

pub returns-in-Some-clause-others : goal.returns-in-Some-clause-others
returns-in-Some-clause-others c = λ m apart.
    let old = c.args.tables.now.entries in
    market_changes old c.remove.new.self.entries c.args.market None c.remove.ensures.updates.0 m ∙ ap (λ b. cond b None (lookup (same_market m) old)) apart

pub returns-in-Some-get-clause-table : goal.returns-in-Some-get-clause-table
returns-in-Some-get-clause-table c =
    let tables = c.args.tables.now.entries in
    let sheets = c.args.sheets.now.entries in
    let m = c.args.market in
    let none : lookup (same_market m) tables ≡ None = sym (c.in-None.ensures.value ∙ market_found tables m) in
    let some : lookup (same_market m) sheets ≡ Some c.in-Some-get.sheet.now = sym (c.in-Some-get.ensures.value ∙ market_found sheets m) in
    let rows = c.as_slice.ensures ∙ ap (λ s. s.rows) c.behind-sheet.view_is in
    if_ok c.table_of.result (λ t. RowsIn c.as_slice.result.now (fares_in t)) _
    (λ t held fare rule changed keyed holds. old_table fare rule changed sheets tables m c.in-Some-get.sheet.now c.deref.result.now (fares_in t) none some c.deref.ensures (subst (λ rs. RowsIn rs (fares_in t)) rows held) keyed holds) c.table_of.ensures
