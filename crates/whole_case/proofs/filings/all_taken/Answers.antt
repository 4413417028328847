-- Each line leads on to the next one, as the lemmas on lines one by one say.
use Rattle.std.proofs.lemmas.Result.{err_from_is_err_and}
use Rattle.whole_case.proofs.FiledLines.{filed_end, filed_more, filed_start, filed_stop}
use Rattle.whole_case.proofs.filings.all_taken.Goals as goal

pub loop-line-init : goal.loop-line-init
loop-line-init c = filed_start c.args.book c.args.lines.now

pub returns-in_err-book : goal.returns-in_err-book
returns-in_err-book c =
    let p = err_from_is_err_and c.from_residual.result c.from_residual.ensures.1 in
    rw (p.1, p.2) (filed_stop c.args.book c.args.lines.now c.loop-line.book c.loop-line.line-index c.line-item.result c.in_err-book.field-0.0 c.loop-line-test.true c.line-item.is c.in_err-book.ensures c.loop-line.invariant)

pub loop-line-preserved : goal.loop-line-preserved
loop-line-preserved c = filed_more c.args.book c.args.lines.now c.loop-line.book c.in_ok-book.book c.loop-line.line-index c.line-item.result c.loop-line-test.true c.line-item.is c.in_ok-book.ensures c.loop-line.invariant

pub returns : goal.returns
returns c = filed_end c.args.book c.args.lines.now c.loop-line.book c.loop-line.line-index c.loop-line-test.false c.loop-line.invariant
