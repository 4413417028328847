use Rattle.std.proofs.Common.{◌≡◌, ◌≤◌, ◌-◌, length}
use Rattle.component_table.specs.Begun.{IsKnown, StaysKnown}
use Rattle.component_table.specs.Tables.{AddsThose}
use Rattle.component_table.proofs.Added.{IsOfOne}
use Rattle.component_table.proofs.LandedFacts.{IsLandedAt}
use Rattle.component_table.proofs.landed.price_landings.Given as goal

abbrev pub invariant-loop-from : goal.invariant-loop-from
invariant-loop-from l = record {
  within : l.from ≤ length l.landings;
  known : IsKnown l.origin.case.now.book.now l.known;
  fares : l.known.fares ≡ l.initial.known.fares;
  stays : StaysKnown l.initial.known l.known;
  added : AddsThose l.origin.case.now.book.now l.origin.case.now.request.now l.origin.at.now (IsOfOne (IsLandedAt l.paths) l.landings 0 l.from) l.known.outlines.of.items l.initial.found.items l.found.items;
}

abbrev pub decreases-loop-from : goal.decreases-loop-from
decreases-loop-from l = length l.landings - l.from
