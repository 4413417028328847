use Rattle.std.proofs.Common.{◌≡◌, ◌-◌, vec_len}
use Rattle.outline_tables.specs.Merges.{IsMerging}
use Rattle.outline_tables.proofs.merging.Merging.lengthen.Given as goal

abbrev pub invariant-loop-self : goal.invariant-loop-self
invariant-loop-self l = record {
  merging : IsMerging l.self;
  table : l.self.table.items ≡ l.initial.self.table.items;
}

abbrev pub decreases-loop-self : goal.decreases-loop-self
decreases-loop-self l = l.count - vec_len l.self.stands
