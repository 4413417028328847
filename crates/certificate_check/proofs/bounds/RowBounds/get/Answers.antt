use Rattle.std.proofs.Common.{◌≡◌, List, Some, sym, subst}
use Rattle.std.specs.Map.{lookup}
use Rattle.certificate_check.specs.Tables.{entries_of}
use Rattle.certificate_check.proofs.Looked.{looked_up}
use Rattle.certificate_check.proofs.RowTables.{Entry}
use Rattle.residual_table.specs.contracts.key.ResidualKeyPartialEq.TheImpl as key
use Rattle.certificate_check.proofs.bounds.RowBounds.get.Goals as goal

pub returns-in-Some : goal.returns-in-Some
returns-in-Some c =
    subst (λ (es : List Entry). Some c.in-Some.bound ≡ lookup (key.ghosts.eq c.args.key) es) c.self.view_is
    (sym (looked_up _ c.keys_equivalence.ensures (entries_of c.self.inside.rows.now) c.self.invariant c.args.key c.in-Some.bound c.in-Some.ensures))
