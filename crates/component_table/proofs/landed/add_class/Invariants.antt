use Rattle.std.proofs.Common.{◌≡◌, ◌≤◌, length}
use Rattle.component_table.specs.Begun.{IsKnown, StaysKnown}
use Rattle.component_table.specs.Landed.{GroupLanded, SaysOfLandings}
use Rattle.component_table.specs.Tables.{AddsThose}
use Rattle.component_table.proofs.Added.{IsOfOne}
use Rattle.joint_paths.specs.Said.{AreSaid}
use Rattle.component_table.proofs.landed.add_class.Given as goal

abbrev pub invariant-loop-at : goal.invariant-loop-at
invariant-loop-at l = record {
  low : l.initial.at ≤ l.at;
  known : IsKnown l.origin.case.now.book.now l.known;
  fares : l.known.fares ≡ l.initial.known.fares;
  stays : StaysKnown l.initial.known l.known;
  said : AreSaid (SaysOfLandings l.origin l.initial.known.fares.rules.of.items l.class) (length l.class.landings.now) l.charges;
  added : AddsThose l.origin.case.now.book.now l.origin.case.now.request.now l.origin.at.now (IsOfOne (GroupLanded l.class.paths.now l.class.landings.now) l.initial.known.fares.groups.items l.initial.at l.at) l.known.outlines.of.items l.initial.found.items l.found.items;
}
