use Rattle.std.proofs.Common.{take}
use Rattle.fare_ends.specs.Tails.{AreEnds}
use Rattle.fare_ends.proofs.tail_ends.ends_of.Given as goal

abbrev pub invariant-loop-tail : goal.invariant-loop-tail
invariant-loop-tail l = AreEnds l.book (take l.tail-index l.tails) l.ends
