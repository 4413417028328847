use Rattle.fare_verdict.specs.Findings.{AreAll}
use Rattle.fare_verdict.proofs.RuleTurns.{IsBelow}
use Rattle.fare_verdict.proofs.judging.all_findings.Given as goal

abbrev pub invariant-loop-rule : goal.invariant-loop-rule
invariant-loop-rule l = AreAll (IsBelow l.book l.request l.ticket l.rule) l.found
