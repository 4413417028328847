use Rattle.residual_table.proofs.KeyFound.{key_found}
use Rattle.residual_table.proofs.finding.keys_found.Goals as goal

pub returns : goal.returns
returns c = key_found c.parts_tell.ensures.positions c.parts_tell.ensures.units
