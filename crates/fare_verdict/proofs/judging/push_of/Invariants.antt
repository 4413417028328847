use Rattle.fare_verdict.specs.Told.{Extends}
use Rattle.fare_verdict.proofs.Stands.{IsReached}
use Rattle.fare_verdict.proofs.judging.push_of.Given as goal

abbrev pub invariant-loop-at : goal.invariant-loop-at
invariant-loop-at l = Extends (IsReached l.book l.request l.ticket l.asked.demand l.at) l.fn.found l.found
