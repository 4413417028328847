use Rattle.std.proofs.Common.{◌≤◌, ◌<◌, ap, length, refl, slice_get, subst, sym, ◌∙◌}
use Rattle.std.proofs.lemmas.Option.{slice_get_read}
use Rattle.component_table.proofs.FlightFacts.{leg_none, slice_none, table_of_none}
use Rattle.fare_law.specs.Lists.{Each}
use Rattle.component_table.specs.Tables.{IsTable}
use Rattle.outline_tables.specs.declared.outline_numbers.Priced.{Priced}
use Rattle.component_table.proofs.tables.outlines_of.Goals as goal

pub returns-in_default-clause-table : goal.returns-in_default-clause-table
returns-in_default-clause-table c =
    let b = c.args.book.now in
    let q = c.args.request.now in
    let at = c.args.position.now in
    subst (IsTable b q at) (sym c.new.ensures) (table_of_none b q at (slice_none b q at (subst (λ xs. length xs ≤ at.slice) c.as_slice.ensures.items c.in_default.ensures.lookup.3)))

pub returns-then-position-gt2-clause-table : goal.returns-then-position-gt2-clause-table
returns-then-position-gt2-clause-table c = subst (IsTable c.args.book.now c.args.request.now c.args.position.now) (sym c.new-then-position-gt2.ensures) (table_of_none c.args.book.now c.args.request.now c.args.position.now (leg_none c.args.book.now c.args.request.now c.args.position.now c.if-position-gt2.true))

pub merge_all-requires-clause-slice : goal.merge_all-requires-clause-slice
merge_all-requires-clause-slice c =
    let xs = c.as_slice.result.now in
    let at = c.args.position.now.slice in
    let found = c.in-Some.ensures.lookup in
    ap (λ ys. slice_get ys at) (sym c.as_slice.ensures.items) ∙ slice_get_read xs (length xs) at c.in-Some.slice.now refl found.3.0 found.1

pub entries-requires : goal.entries-requires
entries-requires c = subst (Each (λ (p : Priced). p.outline < length c.merge_all.new.self.room.known.outlines.of.items)) (sym c.as_slice-2.ensures.value) c.in_ok-merge_all.ensures.table.numbers
