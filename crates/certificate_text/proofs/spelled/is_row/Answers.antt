use Rattle.std.proofs.Common.{◌∙◌, ap, is_some, refl, sym}
use Rattle.certificate.specs.declared.parts.CertRow.{CertRow}
use Rattle.residual_keys.specs.ResidualText.{Spells}
use Rattle.certificate_text.proofs.FaultLemmas.{is_spelled}
use Rattle.certificate_text.proofs.spelled.is_row.Goals as goal

pub returns-in-Some : goal.returns-in-Some
returns-in-Some c =
    let words = c.in-Some.ensures in (
      λ some.
          let found = is_spelled (Spells c.in-Some.residual.now) c.read_residual.result c.read_residual.ensures (sym c.is_some.ensures ∙ some) in
          let row : CertRow = record { residual = found.0; bound = c.in-Some.field-0-1 } in
          (row, (words row).1 (found.1, refl)),
      λ h. c.is_some.ensures ∙ ap is_some ((c.read_residual.ensures h.0.residual).1 ((words h.0).0 h.1).0),
    )
