-- The tests of the request, where they refuse the case, and the whole.
use Rattle.std.proofs.lemmas.Result.{err_from_is_err_and}
use Rattle.whole_case.proofs.CaseSteps.{days_end, spans_stop, two_stops}
use Rattle.whole_case.proofs.calendar.check_days.Goals as goal

pub returns-in_err-check_two : goal.returns-in_err-check_two
returns-in_err-check_two c =
    let p = err_from_is_err_and c.from_residual.result c.from_residual.ensures.1 in
    rw (p.1, p.2) (two_stops c.args.outs c.args.backs c.args.at c.args.asked.now c.in_err-check_two.field-0.0 c.in_err-check_two.ensures)

pub returns-in_err-check_spans : goal.returns-in_err-check_spans
returns-in_err-check_spans c =
    let p = err_from_is_err_and c.from_residual-in_err-check_spans.result c.from_residual-in_err-check_spans.ensures.1 in
    rw (p.1, p.2) (spans_stop c.args.outs c.args.backs c.args.at c.args.asked.now c.in_ok-check_two.ensures c.in_err-check_spans.field-0.0 c.in_err-check_spans.ensures)

pub returns : goal.returns
returns c = days_end c.args.outs c.args.backs c.args.at c.args.asked.now c.in_ok-check_two.ensures c.in_ok-check_spans.ensures c.check_version.result c.check_version.ensures
