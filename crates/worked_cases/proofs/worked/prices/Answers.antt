-- The case's lemmas.
use Rattle.std.proofs.Common.{refl}
use Rattle.worked_cases.proofs.worked.prices.Goals as goal

pub returns-clause-transfer : goal.returns-clause-transfer
returns-clause-transfer c = refl

pub returns-clause-stopover : goal.returns-clause-stopover
returns-clause-stopover c = refl

pub returns-clause-without : goal.returns-clause-without
returns-clause-without c = refl

pub returns-clause-with_charge : goal.returns-clause-with_charge
returns-clause-with_charge c = refl
