use Rattle.std.proofs.Common.{◌<◌, ◌∷◌, ◌++◌, [], List, ap, refl, subst, sym, arith}
use Rattle.component_table.specs.Steps.{BeginsBy, MergesMore}
use Rattle.component_table.proofs.FlightFacts.{shared_have}
use Rattle.component_table.proofs.LeastMerges.{merges_kept}
use Rattle.fare_law.specs.Lists.{Each}
use Rattle.component_table.specs.Tables.{IsPricedTable}
use Rattle.law_lemmas.proofs.Options.{on_ok}
use Rattle.outline_tables.specs.declared.merging.Merging.{Merging}
use Rattle.outline_tables.specs.declared.outline_numbers.Priced.{Priced}
use Rattle.outline_tables.specs.Merges.{IsLeastMerge}
use Rattle.fare_ends.specs.Begins.{of_flight}
use Rattle.component_table.proofs.networks.Network.merge_shared.Goals as goal

pub add-requires-clause-within : goal.add-requires-clause-within
add-requires-clause-within c =
    let b = c.args.case.now.book.now in
    let q = c.args.case.now.request.now in
    let at = c.args.at.now in
    let n = c.args.number in
    let f = c.requires.flight in
    let lt : at.leg < 3 = omega (arith, c.requires.leg) in
    let table : IsPricedTable b q (of_flight at.slice at.leg n f.0) c.find_flight.new.self.room.known.outlines.of.items c.in-Some.table.now = c.in_ok-find_flight.ensures.network.room.flights at.slice at.leg n c.in-Some.table.now lt c.in-Some.ensures.found f.0 f.1 in
    subst (λ m. Each (λ (p : Priced). p.outline < m) c.in-Some.table.now) (sym c.len-count.ensures) table.numbers

pub returns-in-Some-clause-merged : goal.returns-in-Some-clause-merged
returns-in-Some-clause-merged c =
    let b = c.args.case.now.book.now in
    let q = c.args.case.now.request.now in
    let at = c.args.at.now in
    let n = c.args.number in
    let f = c.requires.flight in
    let lt : at.leg < 3 = omega (arith, c.requires.leg) in
    let mid = c.find_flight.new.self.room in
    let known = mid.known.outlines.of.items in
    let old = c.args.self.now.room.merging.table.items in
    let new = c.add.new.self.table.items in
    let own = c.in-Some.table.now in
    let table : IsPricedTable b q (of_flight at.slice at.leg n f.0) known own = c.in_ok-find_flight.ensures.network.room.flights at.slice at.leg n own lt c.in-Some.ensures.found f.0 f.1 in
    let has = shared_have b q at c.args.slice.now c.requires.slice c.requires.shared n c.requires.low c.requires.high f.0 f.2 known own table in
    on_ok c.add.result ((tables : List (List Priced)) → IsLeastMerge tables mid.merging.table.items → IsLeastMerge (tables ++ own ∷ []) new) (MergesMore b q at (λ _ ns. BeginsBy n ns) known old new)
    (merges_kept b q at (λ _ ns. BeginsBy n ns) known known refl own own old mid.merging.table.items new refl (ap (λ (m : Merging). m.table.items) c.find_flight.ensures.merging) has) c.add.ensures.merged

pub returns-in-None-clause-merged : goal.returns-in-None-clause-merged
returns-in-None-clause-merged c = let s = c.in_ok-find_flight.ensures.stands in absurd (c.in-None.ensures.none s.0 s.1)
