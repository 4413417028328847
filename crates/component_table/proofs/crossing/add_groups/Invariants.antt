use Rattle.component_table.specs.Crossings.{GroupPaths}
use Rattle.fare_law.specs.Lists.{IsPrefix}
use Rattle.joint_paths.specs.Joins.{IsRoom}
use Rattle.component_table.specs.Tables.{AddsThose}
use Rattle.component_table.proofs.Added.{IsOfOne}
use Rattle.outline_tables.specs.Numbers.{AreRuled}
use Rattle.component_table.proofs.crossing.add_groups.Given as goal

abbrev pub invariant-loop-group : goal.invariant-loop-group
invariant-loop-group l = record {
  room : IsRoom l.joint l.room;
  outlines : AreRuled l.joint.bucket.now.case.now.book.now l.outlines.of.items;
  stays : IsPrefix l.initial.outlines.of.items l.outlines.of.items;
  found : AddsThose l.joint.bucket.now.case.now.book.now l.joint.bucket.now.case.now.request.now l.joint.bucket.now.at.now (IsOfOne (GroupPaths l.joint) l.groups 0 l.group-index) l.outlines.of.items l.initial.found.items l.found.items;
}
