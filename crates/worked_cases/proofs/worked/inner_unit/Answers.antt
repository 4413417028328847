-- The case's lemmas.
use Rattle.worked_cases.proofs.Hops.{inner_costs, inner_lawful}
use Rattle.worked_cases.proofs.worked.inner_unit.Goals as goal

pub returns-clause-lawful : goal.returns-clause-lawful
returns-clause-lawful c = inner_lawful c.label_laws.ensures

pub returns-clause-costs : goal.returns-clause-costs
returns-clause-costs c = inner_costs
