use Rattle.std.proofs.Common.{◌<◌}
use Rattle.ticket_whole.specs.declared.demand.Demand.{Demand}
use Rattle.ticket_whole.specs.Breaches.{Met, number_of}
use Rattle.ticket_whole.proofs.judgement.lawful.Given as goal

abbrev pub invariant-loop-rule : goal.invariant-loop-rule
invariant-loop-rule l = (other : Demand) → number_of other < l.rule → Met l.book l.request l.ticket other
