use Rattle.std.proofs.Common.{◌≡◌, take}
use Rattle.outline_tables.specs.Numbers.{entries_of}
use Rattle.outline_tables.proofs.outline_numbers.OutlineNumbers.entries.Given as goal

abbrev pub invariant-loop-one : goal.invariant-loop-one
invariant-loop-one l = l.entries.items ≡ entries_of l.self.of.items (take l.one-index l.priced)
