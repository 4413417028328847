-- The case's lemmas.
use Rattle.worked_cases.proofs.Trips.{round_lawful, round_costs, round_apart}
use Rattle.worked_cases.proofs.worked.round_trip.Goals as goal

pub returns-clause-lawful : goal.returns-clause-lawful
returns-clause-lawful c = round_lawful c.label_laws.ensures

pub returns-clause-costs : goal.returns-clause-costs
returns-clause-costs c = round_costs

pub returns-clause-apart : goal.returns-clause-apart
returns-clause-apart c = round_apart
