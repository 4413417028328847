use Rattle.fare_ends.proofs.FiledFacts.{NoneBefore}
use Rattle.fare_ends.proofs.filed.first_place.Given as goal

abbrev pub invariant-loop-at : goal.invariant-loop-at
invariant-loop-at l = NoneBefore l.groups l.carrier l.at
