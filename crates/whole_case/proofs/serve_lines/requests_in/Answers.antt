-- Each line leads on to the next one, as the lemmas on lines one by one say.
use Rattle.std.proofs.lemmas.Result.{err_from_is_err_and}
use Rattle.whole_case.specs.ServeCases.{asked_in}
use Rattle.whole_case.proofs.EachLine.{each_counted, each_end, each_more, each_stops}
use Rattle.whole_case.proofs.serve_lines.requests_in.Goals as goal

pub returns-in_err-request-clause-requests : goal.returns-in_err-request-clause-requests
returns-in_err-request-clause-requests c =
    let p = err_from_is_err_and c.from_residual.result c.from_residual.ensures.1 in
    rw (p.1, p.2) (each_stops (asked_in c.args.best c.args.book.now) c.args.lines.now c.loop-line.requests c.loop-line.line-index c.line-item.result c.in_err-request.field-0.0 c.loop-line-test.true c.line-item.is c.in_err-request.ensures c.loop-line.invariant)

pub loop-line-preserved : goal.loop-line-preserved
loop-line-preserved c =
    each_more (asked_in c.args.best c.args.book.now) c.args.lines.now c.loop-line.requests c.push.new.self c.loop-line.line-index c.line-item.result c.in_ok-request.request c.loop-line-test.true c.line-item.is c.in_ok-request.ensures c.in_ok-push.ensures.items c.loop-line.invariant

pub returns-clause-requests : goal.returns-clause-requests
returns-clause-requests c = each_end (asked_in c.args.best c.args.book.now) c.args.lines.now c.loop-line.requests c.loop-line.line-index c.loop-line-test.false c.loop-line.invariant

pub returns-clause-count : goal.returns-clause-count
returns-clause-count c = each_counted (asked_in c.args.best c.args.book.now) c.args.lines.now c.loop-line.requests (returns-clause-requests c)
