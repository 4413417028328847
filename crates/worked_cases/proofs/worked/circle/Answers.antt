-- The case's lemmas.
use Rattle.worked_cases.proofs.Trips.{circle_lawful, circle_costs}
use Rattle.worked_cases.proofs.worked.circle.Goals as goal

pub returns-clause-lawful : goal.returns-clause-lawful
returns-clause-lawful c = circle_lawful c.label_laws.ensures

pub returns-clause-costs : goal.returns-clause-costs
returns-clause-costs c = circle_costs
