use Rattle.std.proofs.Common.{◌++◌, List, ap, refl, subst, sym, ◌∙◌}
use Rattle.component_table.proofs.NetworkFacts.{network_merging}
use Rattle.component_table.proofs.WholeTables.{table_begun}
use Rattle.joint_paths.specs.declared.crossing_heads.CrossingHead.{CrossingHead}
use Rattle.component_table.specs.Begun.{AreCrossingHeads, CrossingPaths}
use Rattle.component_table.specs.Tables.{AddsThose, IsPricedTable}
use Rattle.law_lemmas.proofs.Lists.{prefix_trans}
use Rattle.law_lemmas.proofs.Options.{on_ok}
use Rattle.component_table.proofs.networks.Network.begin.Goals as goal

pub add_begun-requires-clause-network : goal.add_begun-requires-clause-network
add_begun-requires-clause-network c = network_merging c.args.case.now.book.now c.args.case.now.request.now c.args.self.now _ c.requires.network refl refl refl refl refl refl c.requires.network.room.merging

pub join_begun-requires-clause-heads : goal.join_begun-requires-clause-heads
join_begun-requires-clause-heads c =
    let a = c.in_ok-add_begun.ensures.begun in
    subst (AreCrossingHeads c.args.case.now.book.now c.args.case.now.request.now c.args.at.now) (sym (a.heads ∙ ap (λ (xs : List CrossingHead). xs ++ a.more) c.clear.ensures.heads)) a.crossing

pub returns-clause-outlines : goal.returns-clause-outlines
returns-clause-outlines c = prefix_trans c.args.self.now.room.known.outlines.of.items c.add_begun.new.self.room.known.outlines.of.items c.join_begun.new.self.room.known.outlines.of.items c.add_begun.ensures.outlines c.join_begun.ensures.outlines

pub returns-clause-table : goal.returns-clause-table
returns-clause-table c =
    let b = c.args.case.now.book.now in
    let q = c.args.case.now.request.now in
    let at = c.args.at.now in
    let old = c.add_begun.new.self.room in
    let new = c.join_begun.new.self.room in
    on_ok c.join_begun.result (AddsThose b q at (CrossingPaths b q at) new.known.outlines.of.items old.begun.found.items new.begun.found.items) (IsPricedTable b q at new.known.outlines.of.items new.begun.found.items)
    (table_begun b q at old.known.outlines.of.items new.known.outlines.of.items old.begun.found.items new.begun.found.items c.in_ok-add_begun.ensures.begun.found c.join_begun.ensures.outlines) c.join_begun.ensures.found
