use Rattle.std.proofs.Common.{◌≡◌, ◌∙◌, ℕ, List, map, ◌∷◌, sym, subst, ◌<◌, ◌^◌, length}
use Rattle.std.specs.Prelude.{codes}
use Rattle.certificate.specs.NumberedRows.{AreLive, rows_of}
use Rattle.certificate.specs.declared.parts.CertRow.{CertRow}
use Rattle.certificate_text.specs.CertText.{row_lines}
use Rattle.certificate_text.specs.Faults.{End, Passed, RowCount}
use Rattle.certificate_text.specs.Lines.{IsRow, number_line, row_line}
use Rattle.certificate_text.specs.Unread.{unread}
use Rattle.fare_law.specs.Lists.{Each}
use Rattle.certificate_text.proofs.FaultLemmas.{fault_more, handed_on, passed_more, room_after}
use Rattle.certificate_text.proofs.RowsRead.{as_many}
use Rattle.certificate_text.proofs.lists.rows.Goals as goal

pub numbered_rows-found-requires : goal.numbered_rows-found-requires
numbered_rows-found-requires c = room_after c.in_ok-count.ensures.ok c.requires

pub returns-in_err-rows-clause-fault : goal.returns-in_err-rows-clause-fault
returns-in_err-rows-clause-fault c =
    handed_on RowCount (unread c.args.start) c.from_residual-in_err-rows.result _ c.from_residual-in_err-rows.ensures (fault_more c.in_ok-count.ensures.ok _ c.in_err-rows.ensures.fault)

pub returns-clause-ok : goal.returns-clause-ok
returns-clause-ok c =
    let start = unread c.args.start in
    let left = unread c.in_ok-rows.left in
    let t = c.numbered_rows-found.new.reader in
    let rows = rows_of t c.in_ok-rows.rows in
    let same : c.of.result ≡ rows = c.of.ensures ∙ (λ i. rows_of (c.into_parts-parts.ensures i) (c.into_vec.ensures i)) in
    let many = sym (as_many t c.in_ok-rows.rows ∙ c.in_ok-rows.ensures.count) in
    let passed = passed_more c.in_ok-count.ensures.ok c.in_ok-rows.ensures.ok in
    subst (λ (rs : List CertRow). Passed RowCount start (row_lines rs) End left) (sym same)
    (subst (λ (n : ℕ). Passed RowCount start (number_line (codes "rows") n ∷ map row_line rows) End left) many passed)

pub of-requires : goal.of-requires
of-requires c =
    subst (λ t. AreLive t c.into_vec.result.items) (sym c.into_parts-parts.ensures)
    (subst (AreLive c.numbered_rows-found.new.reader) (sym c.into_vec.ensures) c.in_ok-rows.ensures.live)

pub returns-clause-fits : goal.returns-clause-fits
returns-clause-fits c =
    let t = c.numbered_rows-found.new.reader in
    let rows = rows_of t c.in_ok-rows.rows in
    let same : c.of.result ≡ rows = c.of.ensures ∙ (λ i. rows_of (c.into_parts-parts.ensures i) (c.into_vec.ensures i)) in
    let many = sym (as_many t c.in_ok-rows.rows ∙ c.in_ok-rows.ensures.count) in
    subst (λ (rs : List CertRow). Each IsRow rs × (length rs < 2 ^ 32)) (sym same) (c.in_ok-rows.ensures.fits, subst (λ (n : ℕ). n < 2 ^ 32) many c.in_ok-count.ensures.fits)
