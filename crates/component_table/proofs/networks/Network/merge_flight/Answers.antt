use Rattle.std.proofs.Common.{◌++◌, ◌∷◌, [], List, ap, refl, subst, sym}
use Rattle.component_table.specs.Steps.{BeginsBy, MergesMore}
use Rattle.component_table.proofs.Beginnings.{begun_have}
use Rattle.component_table.proofs.LeastMerges.{merges_kept}
use Rattle.flight_paths.specs.declared.positions.Position.{Position}
use Rattle.component_table.specs.declared.begun.Known.{Known}
use Rattle.component_table.specs.Begun.{TakesOne}
use Rattle.component_table.specs.Tables.{IsPricedTable}
use Rattle.law_lemmas.proofs.Lists.{got_within}
use Rattle.law_lemmas.proofs.Options.{on_ok}
use Rattle.outline_tables.specs.declared.merging.Merging.{Merging}
use Rattle.outline_tables.specs.declared.outline_numbers.Priced.{Priced}
use Rattle.outline_tables.specs.Merges.{IsLeastMerge}
use Rattle.component_table.proofs.networks.Network.merge_flight.Goals as goal

pub begin-requires-clause-one : goal.begin-requires-clause-one
begin-requires-clause-one c =
    let b = c.args.case.now.book.now in
    let q = c.args.case.now.request.now in
    let f = c.requires.flight in
    subst (TakesOne b q) (sym c.narrowed.ensures) (record { slice = got_within q.slices c.args.at.now.slice c.args.slice.now c.requires.slice; one = refl; first = f.0; stands = f.1 })

pub merge_begun-requires-clause-numbers : goal.merge_begun-requires-clause-numbers
merge_begun-requires-clause-numbers c = c.in_ok-begin.ensures.table.numbers

pub returns-clause-merged : goal.returns-clause-merged
returns-clause-merged c =
    let b = c.args.case.now.book.now in
    let q = c.args.case.now.request.now in
    let at = c.args.at.now in
    let n = c.args.number in
    let mid = c.begin.new.self.room in
    let new = c.merge_begun.new.self.room in
    let old = c.args.self.now.room in
    let table = subst (λ (p : Position). IsPricedTable b q p mid.known.outlines.of.items mid.begun.found.items) c.narrowed.ensures c.in_ok-begin.ensures.table in
    let has = begun_have b q at n c.requires.low c.requires.high mid.known.outlines.of.items mid.begun.found.items table in
    on_ok c.merge_begun.result ((tables : List (List Priced)) → IsLeastMerge tables mid.merging.table.items → IsLeastMerge (tables ++ mid.begun.found.items ∷ []) new.merging.table.items) (MergesMore b q at (λ _ ns. BeginsBy n ns) new.known.outlines.of.items old.merging.table.items new.merging.table.items)
    (merges_kept b q at (λ _ ns. BeginsBy n ns) mid.known.outlines.of.items new.known.outlines.of.items (ap (λ (k : Known). k.outlines.of.items) c.merge_begun.ensures.known) mid.begun.found.items mid.begun.found.items old.merging.table.items mid.merging.table.items new.merging.table.items
    refl (ap (λ (m : Merging). m.table.items) c.begin.ensures.merging) has) c.merge_begun.ensures.merged
