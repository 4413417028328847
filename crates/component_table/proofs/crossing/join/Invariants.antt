use Rattle.std.proofs.Common.{◌-◌, ◌≤◌, length}
use Rattle.component_table.specs.Crossings.{GoesOn, IsSliceTails, KeepsSlice}
use Rattle.fare_ends.specs.Markets.{AreMarkets}
use Rattle.component_table.specs.Begun.{IsKnown, StaysKnown}
use Rattle.component_table.specs.Tables.{AddsThose}
use Rattle.component_table.proofs.Added.{IsOfOne}
use Rattle.component_table.proofs.crossing.join.Given as goal

abbrev pub invariant-loop-from : goal.invariant-loop-from
invariant-loop-from l = record {
  markets : AreMarkets l.origin.case.now.book.now l.markets.kept.items;
  known : IsKnown l.origin.case.now.book.now l.known;
  stays : StaysKnown l.initial.known l.known;
  slice : IsSliceTails l.origin.case.now.book.now l.origin.case.now.request.now l.known.fares l.slice;
  keeps : KeepsSlice l.initial.slice l.slice;
  within : l.from ≤ length l.heads;
  found : AddsThose l.origin.case.now.book.now l.origin.case.now.request.now l.origin.at.now (IsOfOne (GoesOn l.origin.case.now.book.now l.origin.case.now.request.now l.origin.at.now) l.heads 0 l.from) l.known.outlines.of.items l.initial.found.items l.found.items;
}

abbrev pub decreases-loop-from : goal.decreases-loop-from
decreases-loop-from l = length l.heads - l.from
