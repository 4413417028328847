use Rattle.std.proofs.Common.{take}
use Rattle.certificate_check.specs.Fronts.{TakenByAny}
use Rattle.certificate_check.proofs.fronts.first_departing.Given as goal

abbrev pub invariant-loop-departing : goal.invariant-loop-departing
invariant-loop-departing l = TakenByAny l.answers l.front (take l.departing-index l.moves)
