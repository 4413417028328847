use Rattle.std.proofs.Common.{[], List, ℕ, get_or, sym, subst, take}
use Rattle.std.proofs.lemmas.List.{take_all}
use Rattle.component_table.specs.Steps.{BeginsBy}
use Rattle.component_table.proofs.Beginnings.{departs_at}
use Rattle.component_table.proofs.LeastMerges.{Among, MergesThose, merges_flight, merges_none}
use Rattle.component_table.proofs.WholeTables.{table_of_flights}
use Rattle.law_lemmas.proofs.Lists.{front_at}
use Rattle.outlines.specs.declared.outline.Outline.{Outline}
use Rattle.schedule_book.specs.Departures.{AreDepartures}
use Rattle.component_table.proofs.networks.Network.begin_each.Goals as goal

pub merge_flight-requires-clause-low : goal.merge_flight-requires-clause-low
merge_flight-requires-clause-low c =
    let b = c.args.case.now.book.now in
    let at = c.args.at.now in
    (departs_at b.timetable.flights c.schedule_of.result.now.flights at.place at.lo at.hi c.from_place-numbers.result.now (sym c.schedule_of.ensures.flights) c.from_place-numbers.ensures c.loop-number.number-index 0 c.loop-number-test.true).0

pub merge_flight-requires-clause-high : goal.merge_flight-requires-clause-high
merge_flight-requires-clause-high c =
    let b = c.args.case.now.book.now in
    let at = c.args.at.now in
    (departs_at b.timetable.flights c.schedule_of.result.now.flights at.place at.lo at.hi c.from_place-numbers.result.now (sym c.schedule_of.ensures.flights) c.from_place-numbers.ensures c.loop-number.number-index 0 c.loop-number-test.true).1

pub merge_flight-requires-clause-flight : goal.merge_flight-requires-clause-flight
merge_flight-requires-clause-flight c =
    let b = c.args.case.now.book.now in
    let at = c.args.at.now in
    (departs_at b.timetable.flights c.schedule_of.result.now.flights at.place at.lo at.hi c.from_place-numbers.result.now (sym c.schedule_of.ensures.flights) c.from_place-numbers.ensures c.loop-number.number-index 0 c.loop-number-test.true).2

pub loop-number-init : goal.loop-number-init
loop-number-init c =
    let b = c.args.case.now.book.now in
    let q = c.args.case.now.request.now in
    record {
      network = c.requires.network;
      merges = merges_none b q c.args.at.now (Among (λ n _ ns. BeginsBy n ns) []) _ _ (λ o ns w. w.1) c.requires.begins;
    }

pub loop-number-preserved : goal.loop-number-preserved
loop-number-preserved c =
    let b = c.args.case.now.book.now in
    let q = c.args.case.now.request.now in
    let at = c.args.at.now in
    let numbers = c.from_place-numbers.result.now in
    let i = c.loop-number.number-index in
    let own : ℕ → Outline → List ℕ → Type 0 = λ n _ ns. BeginsBy n ns in
    let old = c.loop-number.self.room in
    let new = c.merge_flight.new.self.room in
    record {
      network = c.merge_flight.ensures.network;
      merges = subst (λ ns. MergesThose b q at (Among own ns) new.known.outlines.of.items new.merging.table.items) (sym (front_at numbers i 0 c.loop-number-test.true))
          (merges_flight b q at own (take i numbers) (get_or numbers i 0) old.known.outlines.of.items new.known.outlines.of.items old.merging.table.items new.merging.table.items c.loop-number.invariant.merges c.merge_flight.ensures.outlines c.in_ok-merge_flight.ensures.merged);
    }

pub returns-clause-table : goal.returns-clause-table
returns-clause-table c =
    let b = c.args.case.now.book.now in
    let q = c.args.case.now.request.now in
    let at = c.args.at.now in
    let numbers = c.from_place-numbers.result.now in
    let room = c.loop-number.self.room in
    let own : ℕ → Outline → List ℕ → Type 0 = λ n _ ns. BeginsBy n ns in
    let are = subst (λ fs. AreDepartures fs at.place at.lo at.hi numbers) (sym c.schedule_of.ensures.flights) c.from_place-numbers.ensures in
    table_of_flights b q at numbers are room.known.outlines.of.items room.merging.table.items
    (subst (λ ns. MergesThose b q at (Among own ns) room.known.outlines.of.items room.merging.table.items) (take_all c.loop-number.number-index numbers c.loop-number-test.false) c.loop-number.invariant.merges)
