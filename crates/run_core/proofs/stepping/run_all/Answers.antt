use Rattle.std.proofs.Common.{◌+◌, arith}
use Rattle.run_core.proofs.WorldSteps.{comes_next}
use Rattle.run_core.proofs.stepping.run_all.Goals as goal

pub loop-event-preserved : goal.loop-event-preserved
loop-event-preserved c = (
  omega (arith, c.loop-event.invariant.0),
  comes_next _ c.args.events.now c.loop-event.event-index c.event-item.result c.loop-event.world c.step.new.world c.event-item.is c.loop-event-test.true c.loop-event.invariant.1 c.in_default.ensures.ok,
)
