use Rattle.std.proofs.Common.{◌≡◌, ◌<◌, ◌+◌, ◌∷◌, length, take, drop, sym, ap, ◌∙◌, arith}
use Rattle.std.specs.Str.Lines.{lines, strip_carriage_return}
use Rattle.case_text.proofs.Cutting.{line_before, line_whole}
use Rattle.case_text.proofs.lines.first_line.Goals as goal

pub returns-then-end-text-clause-lines : goal.returns-then-end-text-clause-lines
returns-then-end-text-clause-lines c =
    let text = c.args.text.now in
    let end = c.line_end-end.result in
    let below : end < length text = omega arith in
    let line : c.stripped.result.now ≡ strip_carriage_return (take end text) = c.stripped.ensures ∙ ap strip_carriage_return c.split_at.ensures.front in
    let rest : c.split_at-then-end-text.result.1.now ≡ drop (end + 1) text = c.split_at-then-end-text.ensures.back in
    line_before text end below c.line_end-end.ensures.clean (c.line_end-end.ensures.stops below) ∙ (λ i. sym line i ∷ lines (sym rest i))

pub returns-else-end-text-clause-lines : goal.returns-else-end-text-clause-lines
returns-else-end-text-clause-lines c = line_whole c.args.text.now c.line_end-end.result (omega arith) c.requires c.line_end-end.ensures.clean
