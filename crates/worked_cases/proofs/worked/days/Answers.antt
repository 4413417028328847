-- The case's lemmas.
use Rattle.std.proofs.Common.{refl}
use Rattle.worked_cases.proofs.Others.{sunday, strictly, stays, too_short}
use Rattle.worked_cases.proofs.worked.days.Goals as goal

pub returns-clause-monday : goal.returns-clause-monday
returns-clause-monday c = refl

pub returns-clause-sunday : goal.returns-clause-sunday
returns-clause-sunday c = sunday

pub returns-clause-strictly : goal.returns-clause-strictly
returns-clause-strictly c = strictly

pub returns-clause-stays : goal.returns-clause-stays
returns-clause-stays c = stays

pub returns-clause-too_short : goal.returns-clause-too_short
returns-clause-too_short c = too_short
