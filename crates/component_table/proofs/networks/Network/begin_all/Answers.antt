use Rattle.std.proofs.Common.{[], List, ℕ, get_or, refl, sym, subst, take}
use Rattle.std.proofs.lemmas.List.{take_all}
use Rattle.component_table.specs.Steps.{MergesMore}
use Rattle.component_table.proofs.Beginnings.{departs_at}
use Rattle.component_table.proofs.HeadsGathered.{GathersThose, gathers_all, gathers_next, gathers_none}
use Rattle.component_table.proofs.LeastMerges.{Among, MergesThose, merges_flight, merges_none}
use Rattle.component_table.proofs.NetworkFacts.{network_merging}
use Rattle.component_table.proofs.WholeTables.{table_of_heads}
use Rattle.component_table.specs.Begun.{CrossingPaths, HeadPaths}
use Rattle.component_table.specs.Tables.{IsPricedTable}
use Rattle.law_lemmas.proofs.Lists.{front_at}
use Rattle.law_lemmas.proofs.Options.{on_ok}
use Rattle.outlines.specs.declared.outline.Outline.{Outline}
use Rattle.fare_ends.specs.Begins.{narrowed}
use Rattle.schedule_book.specs.Departures.{AreDepartures}
use Rattle.component_table.proofs.networks.Network.begin_all.Goals as goal

pub merge_heads-requires-clause-low : goal.merge_heads-requires-clause-low
merge_heads-requires-clause-low c =
    let b = c.args.case.now.book.now in
    let at = c.args.at.now in
    (departs_at b.timetable.flights c.schedule_of.result.now.flights at.place at.lo at.hi c.from_place-numbers.result.now (sym c.schedule_of.ensures.flights) c.from_place-numbers.ensures c.loop-number.number-index 0 c.loop-number-test.true).0

pub merge_heads-requires-clause-high : goal.merge_heads-requires-clause-high
merge_heads-requires-clause-high c =
    let b = c.args.case.now.book.now in
    let at = c.args.at.now in
    (departs_at b.timetable.flights c.schedule_of.result.now.flights at.place at.lo at.hi c.from_place-numbers.result.now (sym c.schedule_of.ensures.flights) c.from_place-numbers.ensures c.loop-number.number-index 0 c.loop-number-test.true).1

pub merge_heads-requires-clause-flight : goal.merge_heads-requires-clause-flight
merge_heads-requires-clause-flight c =
    let b = c.args.case.now.book.now in
    let at = c.args.at.now in
    (departs_at b.timetable.flights c.schedule_of.result.now.flights at.place at.lo at.hi c.from_place-numbers.result.now (sym c.schedule_of.ensures.flights) c.from_place-numbers.ensures c.loop-number.number-index 0 c.loop-number-test.true).2

pub loop-number-init : goal.loop-number-init
loop-number-init c =
    let b = c.args.case.now.book.now in
    let q = c.args.case.now.request.now in
    let at = c.args.at.now in
    record {
      network = network_merging b q c.args.self.now _ c.requires.network refl refl refl refl refl refl c.requires.network.room.merging;
      found = c.clear.ensures.found;
      gathers = gathers_none b q at _ c.clear.ensures.heads;
      merges = merges_none b q at (Among (λ n. HeadPaths b q (narrowed at n)) []) _ _ (λ o ns w. w.1) c.requires.begins;
    }

pub loop-number-preserved : goal.loop-number-preserved
loop-number-preserved c =
    let b = c.args.case.now.book.now in
    let q = c.args.case.now.request.now in
    let at = c.args.at.now in
    let numbers = c.from_place-numbers.result.now in
    let i = c.loop-number.number-index in
    let n = get_or numbers i 0 in
    let own : ℕ → Outline → List ℕ → Type 0 = λ n. HeadPaths b q (narrowed at n) in
    let old = c.loop-number.self.room in
    let new = c.merge_heads.new.self.room in
    let one = departs_at b.timetable.flights c.schedule_of.result.now.flights at.place at.lo at.hi numbers (sym c.schedule_of.ensures.flights) c.from_place-numbers.ensures i 0 c.loop-number-test.true in
    let so = c.loop-number.invariant in
    let front = front_at numbers i 0 c.loop-number-test.true in
    record {
      network = c.merge_heads.ensures.network;
      found = c.in_ok-merge_heads.ensures.none;
      gathers = subst (λ ns. GathersThose b q at ns new.begun.heads.items) (sym front) (gathers_next b q at n one.0 one.1 (take i numbers) old.begun.heads.items new.begun.heads.items so.gathers c.in_ok-merge_heads.ensures.heads);
      merges = subst (λ ns. MergesThose b q at (Among own ns) new.known.outlines.of.items new.merging.table.items) (sym front)
          (merges_flight b q at own (take i numbers) n old.known.outlines.of.items new.known.outlines.of.items old.merging.table.items new.merging.table.items so.merges c.merge_heads.ensures.outlines c.in_ok-merge_heads.ensures.merged);
    }

pub merge_crossing-requires-clause-heads : goal.merge_crossing-requires-clause-heads
merge_crossing-requires-clause-heads c =
    let b = c.args.case.now.book.now in
    let q = c.args.case.now.request.now in
    let at = c.args.at.now in
    let numbers = c.from_place-numbers.result.now in
    let heads = c.loop-number.self.room.begun.heads.items in
    gathers_all b q at numbers heads (subst (λ fs. AreDepartures fs at.place at.lo at.hi numbers) (sym c.schedule_of.ensures.flights) c.from_place-numbers.ensures)
    (subst (λ ns. GathersThose b q at ns heads) (take_all c.loop-number.number-index numbers c.loop-number-test.false) c.loop-number.invariant.gathers)

pub returns-clause-table : goal.returns-clause-table
returns-clause-table c =
    let b = c.args.case.now.book.now in
    let q = c.args.case.now.request.now in
    let at = c.args.at.now in
    let numbers = c.from_place-numbers.result.now in
    let own : ℕ → Outline → List ℕ → Type 0 = λ n. HeadPaths b q (narrowed at n) in
    let old = c.loop-number.self.room in
    let new = c.merge_crossing.new.self.room in
    let are = subst (λ fs. AreDepartures fs at.place at.lo at.hi numbers) (sym c.schedule_of.ensures.flights) c.from_place-numbers.ensures in
    let merges = subst (λ ns. MergesThose b q at (Among own ns) old.known.outlines.of.items old.merging.table.items) (take_all c.loop-number.number-index numbers c.loop-number-test.false) c.loop-number.invariant.merges in
    on_ok c.merge_crossing.result (MergesMore b q at (CrossingPaths b q at) new.known.outlines.of.items old.merging.table.items new.merging.table.items) (IsPricedTable b q at new.known.outlines.of.items new.merging.table.items)
    (λ k. table_of_heads b q at numbers are old.known.outlines.of.items new.known.outlines.of.items old.merging.table.items new.merging.table.items merges c.merge_crossing.ensures.outlines k) c.merge_crossing.ensures.merged
