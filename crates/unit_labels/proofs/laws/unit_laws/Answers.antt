-- The theorems of their own files.
use Rattle.unit_labels.proofs.UnitJoin.{unit_laws as the_laws}
use Rattle.unit_labels.proofs.laws.unit_laws.Goals as goal

pub returns : goal.returns
returns g c = the_laws g.K.UnitSteps.steps
