use Rattle.std.proofs.Common.{reverse}
use Rattle.run_core.specs.Causes.{taken}
use Rattle.run_core.specs.Worlds.{opened}
use Rattle.run_core.proofs.WorldSteps.{comes_on, recorded_as_counted}
use Rattle.run_core.proofs.stepping.run.Goals as goal

pub returns-clause-answers : goal.returns-clause-answers
returns-clause-answers c opening count past came =
    recorded_as_counted opening count _ _ (comes_on (opened opening count) past (reverse (taken c.args.events.now c.run_all.result)) _ _ came c.run_all.ensures.world)
