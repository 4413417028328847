use Rattle.std.proofs.Common.{get_or}
use Rattle.certificate.specs.NumberedRows.{key_of, row_of}
use Rattle.certificate_text.specs.Lines.{row_line}
use Rattle.certificate_text.proofs.PushLemmas.{line_more}
use Rattle.certificate_text.proofs.RowLemmas.{all_lines, no_row}
use Rattle.law_lemmas.proofs.EachOne.{each_at}
use Rattle.law_lemmas.proofs.Lists.{got_read}
use Rattle.residual_table.specs.Keys.{IsLive}
use Rattle.certificate_text.proofs.row_texts.push_lines.Goals as goal

pub push_row-requires : goal.push_row-requires
push_row-requires c =
    let t = c.requires.0 in
    (t, c.requires.1, each_at (λ r. IsLive t (key_of r)) c.args.rows.now c.loop-row.row-index no_row c.requires.2 c.loop-row-test.true)

pub loop-row-preserved : goal.loop-row-preserved
loop-row-preserved c t e live =
    let rows = c.args.rows.now in
    let i = c.loop-row.row-index in
    line_more (λ r. row_line (row_of t r)) rows i (get_or rows i no_row) c.args.text.now.items c.loop-row.text.items c.push_row.new.text.items
    (got_read rows i no_row c.loop-row-test.true) (c.loop-row.invariant t e live)
    (c.in_ok-push_row.ensures t e (each_at (λ r. IsLive t (key_of r)) rows i no_row live c.loop-row-test.true))

pub returns : goal.returns
returns c t e live = all_lines t c.args.rows.now c.loop-row.row-index c.args.text.now.items c.loop-row.text.items c.loop-row-test.false (c.loop-row.invariant t e live)
