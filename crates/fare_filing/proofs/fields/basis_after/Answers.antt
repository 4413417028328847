use Rattle.fare_filing.proofs.FieldLemmas.{basis_there}
use Rattle.fare_filing.proofs.fields.basis_after.Goals as goal

pub returns-clause-text : goal.returns-clause-text
returns-clause-text c =
    basis_there c.args.text.now c.args.piece.now c.in_ok-name.name.now c.in_ok-name.rest.now c.in_ok-basis_of.field-0 c.in_ok-name.ensures c.in_ok-basis_of.ensures.name
