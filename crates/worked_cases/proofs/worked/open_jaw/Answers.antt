-- The case's lemmas.
use Rattle.worked_cases.proofs.Hops.{boston_costs, boston_lawful, far_refused, paris_costs, paris_lawful}
use Rattle.worked_cases.proofs.worked.open_jaw.Goals as goal

pub returns-clause-lawful : goal.returns-clause-lawful
returns-clause-lawful c = boston_lawful c.label_laws.ensures

pub returns-clause-costs : goal.returns-clause-costs
returns-clause-costs c = boston_costs

pub returns-clause-other_lawful : goal.returns-clause-other_lawful
returns-clause-other_lawful c = paris_lawful c.label_laws.ensures

pub returns-clause-other_costs : goal.returns-clause-other_costs
returns-clause-other_costs c = paris_costs

pub returns-clause-two_gaps : goal.returns-clause-two_gaps
returns-clause-two_gaps c = far_refused
