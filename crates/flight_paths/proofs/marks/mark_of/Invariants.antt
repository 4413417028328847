use Rattle.std.proofs.Common.{take}
use Rattle.flight_paths.specs.Marks.{HasBits}
use Rattle.flight_paths.proofs.marks.mark_of.Given as goal

abbrev pub invariant-loop-place : goal.invariant-loop-place
invariant-loop-place l = HasBits l.mark (take l.place-index l.places)
