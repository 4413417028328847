use Rattle.std.proofs.Common.{subst, sym}
use Rattle.certificate.specs.NumberedRows.{key_of, row_of}
use Rattle.residual_keys.specs.ResidualText.{Spells}
use Rattle.residual_keys.specs.Residuals.{State}
use Rattle.residual_table.specs.Keys.{StandsFor}
use Rattle.residual_table.proofs.KeyFacts.{residual_is}
use Rattle.residual_table.proofs.Matched.{on_some}
use Rattle.certificate_text.proofs.spelled.row_line.Goals as goal

pub returns-clause-row : goal.returns-clause-row
returns-clause-row c =
    let text = c.in-Some.residual.now in
    let t = c.read.new.self in
    let row = c.new.result in
    let found = on_some _ _ c.in_ok-key.field-0 c.in-Some-2.key c.in-Some-2.is c.in_ok-key.ensures.key in
    let x : State = found.0 in
    let stands : StandsFor t (key_of row) x = subst (λ k. StandsFor t k x) (sym c.new.ensures.key) found.2 in
    let spells = subst (Spells text) (sym (residual_is t (key_of row) x stands)) found.1 in
    ((x, stands), (c.in-Some.ensures (row_of t row)).1 (spells, c.new.ensures.bound))
