use Rattle.std.proofs.Common.{◌≡◌, take, true}
use Rattle.fare_filing.proofs.pieces.is_same.Given as goal

abbrev pub invariant-loop-i : goal.invariant-loop-i
invariant-loop-i l = l.same ≡ true → take l.i l.front ≡ take l.i l.piece
