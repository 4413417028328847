use Rattle.search_steps.proofs.RowsByNumber.{keeps_states}
use Rattle.search_steps.proofs.steps.SearchSteps.reached.Goals as goal

pub returns-clause-keeps : goal.returns-clause-keeps
returns-clause-keeps c = keeps_states c.args.self.now.case.numbers c.reached.new.self.numbers c.reached.ensures.grows
