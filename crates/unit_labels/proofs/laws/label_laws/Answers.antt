-- The theorems of their own files.
use Rattle.unit_labels.proofs.LabelLaw.{label_laws as the_laws}
use Rattle.unit_labels.proofs.laws.label_laws.Goals as goal

pub returns : goal.returns
returns c = the_laws
