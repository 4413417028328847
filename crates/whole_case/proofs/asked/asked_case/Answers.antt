-- The stages up to the filings, the request, and the whole.
use Rattle.std.proofs.lemmas.Result.{err_from_is_err_and}
use Rattle.whole_case.proofs.AskedSteps.{asks, filed_stops, request_stops}
use Rattle.whole_case.proofs.asked.asked_case.Goals as goal

pub returns-in_err-filed : goal.returns-in_err-filed
returns-in_err-filed c =
    let p = err_from_is_err_and c.from_residual.result c.from_residual.ensures.1 in
    rw (p.1, p.2) (filed_stops c.args.kind c.args.at c.args.bytes.now c.in_err-filed.field-0.0 c.in_err-filed.ensures.case)

pub returns-in_err-request : goal.returns-in_err-request
returns-in_err-request c =
    let p = err_from_is_err_and c.from_residual-in_err-request.result c.from_residual-in_err-request.ensures.1 in
    rw (p.1, p.2) (request_stops c.args.kind c.args.at c.args.bytes.now c.in_ok-filed.filed c.in_ok-filed.ensures.case c.in_err-request.field-0.0 c.in_err-request.ensures)

pub returns : goal.returns
returns c =
    rw (c.asked_of.ensures) (asks c.args.kind c.args.at c.args.bytes.now c.in_ok-filed.filed c.in_ok-filed.ensures.case c.in_ok-request.request c.in_ok-request.ensures)
