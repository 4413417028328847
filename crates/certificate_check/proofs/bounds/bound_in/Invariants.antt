use Rattle.std.proofs.Common.{◌≡◌, drop}
use Rattle.std.specs.Map.{lookup}
use Rattle.certificate_check.specs.Tables.{entries_of}
use Rattle.residual_table.specs.contracts.key.ResidualKeyPartialEq.TheImpl as key
use Rattle.certificate_check.proofs.bounds.bound_in.Given as goal

abbrev pub invariant-loop-row : goal.invariant-loop-row
invariant-loop-row l = lookup (key.ghosts.eq l.key) (entries_of (drop l.row-index l.rows)) ≡ lookup (key.ghosts.eq l.key) (entries_of l.rows)
