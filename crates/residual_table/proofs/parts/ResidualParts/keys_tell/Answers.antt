use Rattle.std.proofs.Common.{subst}
use Rattle.residual_table.specs.Keys.{AreTables}
use Rattle.residual_table.proofs.KeyFacts.{keys_of_residuals}
use Rattle.residual_table.proofs.parts.ResidualParts.keys_tell.Goals as goal

pub returns : goal.returns
returns c = keys_of_residuals c.parts_tell.ensures.parts c.args.self.now (subst AreTables c.self.view_is c.self.invariant)
