-- Each stage, where it refuses the case, and the whole.
use Rattle.std.proofs.lemmas.Result.{err_from_is_err_and}
use Rattle.whole_case.proofs.ServeSteps.{all_read, asks_stop, later_stops, script_stops}
use Rattle.whole_case.proofs.serve.asks_in.Goals as goal

pub returns-in_err-later-clause-asks : goal.returns-in_err-later-clause-asks
returns-in_err-later-clause-asks c =
    let p = err_from_is_err_and c.from_residual.result c.from_residual.ensures.1 in
    rw (p.1, p.2) (later_stops c.args.best c.args.filed.now c.in_err-later.field-0.0 c.in_err-later.ensures.filings)

pub returns-in_err-requests-clause-asks : goal.returns-in_err-requests-clause-asks
returns-in_err-requests-clause-asks c =
    let p = err_from_is_err_and c.from_residual-in_err-requests.result c.from_residual-in_err-requests.ensures.1 in
    rw (p.1, p.2) (asks_stop c.args.best c.args.filed.now c.in_ok-later.later c.in_ok-later.ensures.filings c.in_err-requests.field-0.0 c.in_err-requests.ensures.requests)

pub returns-in_err-script-clause-asks : goal.returns-in_err-script-clause-asks
returns-in_err-script-clause-asks c =
    let p = err_from_is_err_and c.from_residual-in_err-script.result c.from_residual-in_err-script.ensures.1 in
    rw (p.1, p.2) (script_stops c.args.best c.args.filed.now c.in_ok-later.later c.in_ok-later.ensures.filings c.in_ok-requests.requests c.in_ok-requests.ensures.requests
    c.in_err-script.field-0.0 c.in_err-script.ensures.script)

pub returns-clause-asks : goal.returns-clause-asks
returns-clause-asks c =
    all_read c.args.best c.args.filed.now c.in_ok-later.later c.in_ok-later.ensures.filings c.in_ok-requests.requests c.in_ok-requests.ensures.requests c.in_ok-script.script c.in_ok-script.ensures.script
