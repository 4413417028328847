-- The case's lemmas.
use Rattle.worked_cases.proofs.Boundaries.{not_online}
use Rattle.worked_cases.proofs.categories.connections.Goals as goal

pub returns-clause-not_online : goal.returns-clause-not_online
returns-clause-not_online c = not_online
