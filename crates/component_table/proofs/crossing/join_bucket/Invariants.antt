use Rattle.std.proofs.Common.{◌≡◌, ◌≤◌}
use Rattle.component_table.specs.Crossings.{EndPaths}
use Rattle.joint_paths.specs.Ruled.{AreRuledHeads}
use Rattle.component_table.specs.Begun.{IsKnown, StaysKnown}
use Rattle.component_table.specs.Tables.{AddsThose}
use Rattle.component_table.proofs.Added.{IsOfOne}
use Rattle.component_table.proofs.crossing.join_bucket.Given as goal

abbrev pub invariant-loop-at : goal.invariant-loop-at
invariant-loop-at l = record {
  known : IsKnown l.bucket.case.now.book.now l.known;
  fares : l.known.fares ≡ l.initial.known.fares;
  stays : StaysKnown l.initial.known l.known;
  low : l.fn.range.from ≤ l.at;
  ruled : AreRuledHeads l.bucket l.known.fares.rules.of.items l.room.ruled;
  found : AddsThose l.bucket.case.now.book.now l.bucket.case.now.request.now l.bucket.at.now (IsOfOne (EndPaths l.bucket l.slice) l.slice.joins.ends.items l.fn.range.from l.at) l.known.outlines.of.items l.initial.found.items l.found.items;
}
