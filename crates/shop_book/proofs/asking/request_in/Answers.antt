-- The spelling and the limits, where they refuse the request, and the whole.
use Rattle.std.proofs.Common.{Ok, Err, subst}
use Rattle.std.proofs.lemmas.Result.{err_from_is_err_and}
use Rattle.shop_book.proofs.AskingSteps.{asks, limits_stop, spelling_stops}
use Rattle.whole_case.specs.Requests.{allowed_in}
use Rattle.whole_case.specs.Stages.{Reads}
use Rattle.shop_book.proofs.asking.request_in.Goals as goal

pub returns-in_err-spelled-clause-request : goal.returns-in_err-spelled-clause-request
returns-in_err-spelled-clause-request c =
    let p = err_from_is_err_and c.from_residual.result c.from_residual.ensures.1 in
    rw (p.1, p.2) (spelling_stops c.args.book.now c.args.best c.args.bytes.now c.in_err-spelled.field-0.0 c.in_err-spelled.ensures)

pub returns-in_err-allowed_in-clause-request : goal.returns-in_err-allowed_in-clause-request
returns-in_err-allowed_in-clause-request c =
    let fault = c.in_err-allowed_in.field-0.0 in
    let p = err_from_is_err_and c.from_residual-in_err-allowed_in.result c.from_residual-in_err-allowed_in.ensures.1 in
    rw (p.1, p.2) (limits_stop c.args.book.now c.args.best c.args.bytes.now c.in_ok-spelled.spelled c.in_ok-spelled.ensures fault
    (subst (λ q. Reads {A = Unit {0}} (Err fault) (allowed_in c.args.book.now 1 q)) c.with_best-request.ensures c.in_err-allowed_in.ensures.allowed))

pub returns-clause-request : goal.returns-clause-request
returns-clause-request c =
    rw (c.with_best-request.ensures) (asks c.args.book.now c.args.best c.args.bytes.now c.in_ok-spelled.spelled c.in_ok-spelled.ensures
    (subst (λ q. allowed_in c.args.book.now 1 q (Ok tt)) c.with_best-request.ensures c.in_ok-allowed_in.ensures.allowed))
