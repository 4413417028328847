use Rattle.std.proofs.Common.{take}
use Rattle.fare_ends.specs.Tails.{AreWanted}
use Rattle.fare_ends.proofs.narrowing.wanted_ends.Given as goal

abbrev pub invariant-loop-end : goal.invariant-loop-end
invariant-loop-end l = AreWanted l.book l.from (take l.end-index l.ends) l.wanted.items
