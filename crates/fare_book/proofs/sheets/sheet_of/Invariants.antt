use Rattle.std.proofs.Common.{map}
use Rattle.std.specs.Map.Iter.{deref_pair}
use Rattle.fare_book.proofs.Making.{Made}
use Rattle.fare_book.proofs.sheets.sheet_of.Given as goal

abbrev pub invariant-loop-fare : goal.invariant-loop-fare
invariant-loop-fare l = Made l.rules.entries l.rows (map deref_pair l.yielded)
