use Rattle.std.proofs.Common.{◌≡◌, take}
use Rattle.certificate_check.proofs.fronts.with_move.Given as goal

abbrev pub invariant-loop-each : goal.invariant-loop-each
invariant-loop-each l = l.all ≡ take l.each-index l.moves
