use Rattle.std.proofs.Common.{take}
use Rattle.cheap_moves.specs.Making.{IsFareMove, Of}
use Rattle.residual_keys.specs.Gathered.{Adds}
use Rattle.cheap_moves.proofs.fares.add_fares.Given as goal

abbrev pub invariant-loop-fare : goal.invariant-loop-fare
invariant-loop-fare g l = Adds (Of (IsFareMove l.component l.search.limit l.onward) (take l.fare-index l.fare-items)) l.initial.found l.found
