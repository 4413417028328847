use Rattle.std.proofs.Common.{◌↔◌, IsTrue, subst, sym}
use Rattle.certificate.specs.declared.numbered.NumberedRow.{NumberedRow}
use Rattle.certificate.specs.declared.parts.CertRow.{CertRow}
use Rattle.certificate.specs.NumberedRows.{key_of, row_of}
use Rattle.certificate_check.proofs.Begins.{if_last}
use Rattle.certificate_check.proofs.ByNumbers.{last_mapped}
use Rattle.residual_keys.specs.ResidualOrder.{StateBefore}
use Rattle.residual_table.specs.declared.key.ResidualKey.{ResidualKey}
use Rattle.residual_table.specs.Keys.{residual_at}
use Rattle.certificate_check.proofs.rows.Judge.ascends.Goals as goal

pub returns-in-Some : goal.returns-in-Some
returns-in-Some c =
    let t = c.args.self.now.parts.now in
    let x = residual_at t (key_of c.args.row.now) in
    let first = subst (λ (k : ResidualKey). IsTrue c.is_before.result ↔ StateBefore (residual_at t k) (residual_at t c.key-in-Some.result)) c.key.ensures c.is_before.ensures in
    let told = subst (λ (k : ResidualKey). IsTrue c.is_before.result ↔ StateBefore (residual_at t (key_of c.in-Some.last.now)) (residual_at t k)) c.key-in-Some.ensures first in
    let last = if_last (λ (n : NumberedRow). StateBefore (residual_at t (key_of n)) x) c.args.before.now c.in-Some.last.now (sym c.in-Some.ensures.value) in
    let mapped = last_mapped (row_of t) (λ (row : CertRow). StateBefore row.residual x) c.args.before.now in
    (λ h. mapped.1 (last.1 (told.0 h)), λ h. told.1 (last.0 (mapped.0 h)))
