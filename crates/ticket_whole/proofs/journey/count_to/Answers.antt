use Rattle.ticket_whole.proofs.CutLemmas.{ends_here}
use Rattle.ticket_whole.proofs.journey.count_to.Goals as goal

pub returns-then-is-clause-cut : goal.returns-then-is-clause-cut
returns-then-is-clause-cut c = ends_here c.args.place c.args.flights.now c.loop-at.at _ c.loop-at-test.true c.loop-at.invariant (c.is.ensures.0 c.if-is.true)
