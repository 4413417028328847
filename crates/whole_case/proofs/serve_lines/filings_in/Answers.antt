-- Each line leads on to the next one, as the lemmas on lines one by one say.
use Rattle.std.proofs.lemmas.Result.{err_from_is_err_and}
use Rattle.fare_law.specs.FilingLimits.{IsFiling}
use Rattle.whole_case.specs.Filings.{filing_in}
use Rattle.whole_case.proofs.EachLine.{each_counted, each_end, each_more, each_stops, such_more}
use Rattle.whole_case.proofs.serve_lines.filings_in.Goals as goal

pub returns-in_err-filing-clause-filings : goal.returns-in_err-filing-clause-filings
returns-in_err-filing-clause-filings c =
    let p = err_from_is_err_and c.from_residual.result c.from_residual.ensures.1 in
    rw (p.1, p.2) (each_stops filing_in c.args.lines.now c.loop-line.filings c.loop-line.line-index c.line-item.result c.in_err-filing.field-0.0 c.loop-line-test.true c.line-item.is c.in_err-filing.ensures.filing c.loop-line.invariant.0)

pub loop-line-preserved : goal.loop-line-preserved
loop-line-preserved c = (
  each_more filing_in c.args.lines.now c.loop-line.filings c.push.new.self c.loop-line.line-index c.line-item.result c.in_ok-filing.filing c.loop-line-test.true c.line-item.is c.in_ok-filing.ensures.filing c.in_ok-push.ensures.items c.loop-line.invariant.0,
  such_more IsFiling c.loop-line.filings c.push.new.self c.in_ok-filing.filing c.loop-line.invariant.1 c.in_ok-filing.ensures.limits c.in_ok-push.ensures.items,
)

pub returns-clause-filings : goal.returns-clause-filings
returns-clause-filings c = each_end filing_in c.args.lines.now c.loop-line.filings c.loop-line.line-index c.loop-line-test.false c.loop-line.invariant.0

pub returns-clause-count : goal.returns-clause-count
returns-clause-count c = each_counted filing_in c.args.lines.now c.loop-line.filings (returns-clause-filings c)
