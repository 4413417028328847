use Rattle.std.proofs.Common.{◌≡◌, ◌++◌, take, map}
use Rattle.certificate.specs.NumberedRows.{AreLive, row_of}
use Rattle.certificate_text.specs.CertText.{text_of}
use Rattle.certificate_text.specs.Lines.{row_line}
use Rattle.certificate_text.specs.RowTexts.{texts_of}
use Rattle.residual_table.specs.Keys.{Tables}
use Rattle.certificate_text.proofs.row_texts.push_lines.Given as goal

-- the lines of the rows so far have been added
abbrev pub invariant-loop-row : goal.invariant-loop-row
invariant-loop-row l = (t : Tables) → l.texts ≡ texts_of t → AreLive t l.rows → l.text.items ≡ l.initial.text.items ++ text_of (map (λ r. row_line (row_of t r)) (take l.row-index l.rows))
