use Rattle.std.proofs.Common.{◌<◌, ◌∷◌, ◌++◌, [], List, ap, length, subst, sym, ◌∙◌}
use Rattle.component_table.specs.Steps.{MergesMore}
use Rattle.component_table.proofs.LeastMerges.{merges_kept}
use Rattle.fare_law.specs.Lists.{Each}
use Rattle.component_table.specs.declared.begun.Known.{Known}
use Rattle.component_table.specs.Begun.{CrossingPaths}
use Rattle.law_lemmas.proofs.Options.{on_ok}
use Rattle.outline_tables.specs.declared.merging.Merging.{Merging}
use Rattle.outline_tables.specs.declared.outline_numbers.Priced.{Priced}
use Rattle.outline_tables.specs.Merges.{IsLeastMerge}
use Rattle.component_table.proofs.networks.Network.merge_crossing.Goals as goal

pub merge_begun-requires-clause-numbers : goal.merge_begun-requires-clause-numbers
merge_begun-requires-clause-numbers c =
    let a = c.in_ok-join_begun.ensures.found in
    let known = c.join_begun.new.self.room.known.outlines.of.items in
    subst (Each (λ (p : Priced). p.outline < length known)) (sym (a.joined ∙ ap (λ xs. xs ++ a.more) c.requires.none)) a.has.numbers

pub returns-clause-merged : goal.returns-clause-merged
returns-clause-merged c =
    let b = c.args.case.now.book.now in
    let q = c.args.case.now.request.now in
    let at = c.args.at.now in
    let a = c.in_ok-join_begun.ensures.found in
    let mid = c.join_begun.new.self.room in
    let new = c.merge_begun.new.self.room in
    let old = c.args.self.now.room in
    on_ok c.merge_begun.result ((tables : List (List Priced)) → IsLeastMerge tables mid.merging.table.items → IsLeastMerge (tables ++ mid.begun.found.items ∷ []) new.merging.table.items) (MergesMore b q at (CrossingPaths b q at) new.known.outlines.of.items old.merging.table.items new.merging.table.items)
    (merges_kept b q at (CrossingPaths b q at) mid.known.outlines.of.items new.known.outlines.of.items (ap (λ (k : Known). k.outlines.of.items) c.merge_begun.ensures.known) a.more mid.begun.found.items old.merging.table.items mid.merging.table.items new.merging.table.items
    (a.joined ∙ ap (λ xs. xs ++ a.more) c.requires.none) (ap (λ (m : Merging). m.table.items) c.join_begun.ensures.merging) a.has) c.merge_begun.ensures.merged
