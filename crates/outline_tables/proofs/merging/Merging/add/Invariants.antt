use Rattle.std.proofs.Common.{◌≤◌, [], ◌∷◌, ◌++◌, List, length, take}
use Rattle.outline_tables.specs.declared.outline_numbers.Priced.{Priced}
use Rattle.outline_tables.specs.Merges.{IsLeastMerge, IsMerging}
use Rattle.outline_tables.proofs.merging.Merging.add.Given as goal

abbrev pub invariant-loop-one : goal.invariant-loop-one
invariant-loop-one l = record {
  merging : IsMerging l.self;
  room : l.count ≤ length l.self.stands.items;
  merged : (tables : List (List Priced)) → IsLeastMerge tables l.initial.self.table.items → IsLeastMerge (tables ++ take l.one-index l.table ∷ []) l.self.table.items;
}
