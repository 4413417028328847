use Rattle.std.proofs.Common.{◌≤◌}
use Rattle.fare_ends.proofs.FiledFacts.{PastBefore}
use Rattle.fare_ends.proofs.filed.past_place.Given as goal

abbrev pub invariant-loop-at : goal.invariant-loop-at
invariant-loop-at l = record {
  within : l.past ≤ l.at;
  past : PastBefore l.groups l.carrier l.at l.past;
}
