use Rattle.std.proofs.Common.{take}
use Rattle.fare_law.specs.Lists.{IsIn}
use Rattle.cheap_moves.proofs.prospects.is_among.Given as goal

abbrev pub invariant-loop-other : goal.invariant-loop-other
invariant-loop-other l = IsIn l.prospect (take l.other-index l.prospects) → ⊥
