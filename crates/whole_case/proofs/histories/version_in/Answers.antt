-- The lines up to the version, and those after it.
use Rattle.std.proofs.Common.{◌∙◌}
use Rattle.std.proofs.lemmas.Result.{err_from_is_err_and}
use Rattle.whole_case.proofs.FiledLines.{front_stops, later_stops, version_kept}
use Rattle.whole_case.proofs.histories.version_in.Goals as goal

pub returns-in_err-book : goal.returns-in_err-book
returns-in_err-book c =
    let p = err_from_is_err_and c.from_residual.result c.from_residual.ensures.1 in
    rw (p.1, p.2) (front_stops c.args.opening c.args.lines.now c.split_at.result.0.now c.split_at.result.1.now c.args.at c.split_at.ensures.by_index.0 c.in_err-book.field-0.0 c.in_err-book.ensures)

pub returns-in_err-judged : goal.returns-in_err-judged
returns-in_err-judged c =
    let p = err_from_is_err_and c.from_residual-in_err-judged.result c.from_residual-in_err-judged.ensures.1 in
    rw (p.1, p.2) (later_stops c.args.opening c.args.lines.now c.split_at.result.0.now c.split_at.result.1.now c.args.at c.split_at.ensures.by_index.0 c.in_ok-book.book c.in_err-judged.field-0.0 c.in_ok-book.ensures c.in_err-judged.ensures)

pub returns : goal.returns
returns c =
    version_kept c.args.opening c.args.lines.now c.split_at.result.0.now c.split_at.result.1.now c.args.at c.split_at.ensures.by_index.0 c.in_ok-book.book c.requires
    (c.split_at.ensures.front_len ∙ c.kept.ensures.value) c.in_ok-book.ensures c.in_ok-judged.ensures
