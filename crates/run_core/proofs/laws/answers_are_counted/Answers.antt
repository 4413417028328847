use Rattle.run_core.proofs.WorldSteps.{recorded_as_counted}
use Rattle.run_core.proofs.laws.answers_are_counted.Goals as goal

pub returns : goal.returns
returns c = recorded_as_counted
