use Rattle.std.proofs.Common.{◌≤◌}
use Rattle.fare_filing.proofs.written.object_end.Given as goal

abbrev pub invariant-loop-i : goal.invariant-loop-i
invariant-loop-i l = l.open ≤ l.i
