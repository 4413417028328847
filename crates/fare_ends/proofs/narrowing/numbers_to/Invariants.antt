use Rattle.fare_ends.proofs.Wanted.{AreBefore}
use Rattle.fare_ends.proofs.narrowing.numbers_to.Given as goal

abbrev pub invariant-loop-number : goal.invariant-loop-number
invariant-loop-number l = AreBefore l.wanted l.ends l.number l.numbers
