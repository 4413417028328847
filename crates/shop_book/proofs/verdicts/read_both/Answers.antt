-- The request and the ticket, where they refuse the verdict.
use Rattle.std.proofs.lemmas.Result.{err_from_is_err_and}
use Rattle.shop_book.proofs.AskingSteps.{asked_stops_verdict, ticket_stops}
use Rattle.shop_book.proofs.verdicts.read_both.Goals as goal

pub returns-in_err-told-clause-read : goal.returns-in_err-told-clause-read
returns-in_err-told-clause-read c =
    let p = err_from_is_err_and c.from_residual-in_err-told.result c.from_residual-in_err-told.ensures.1 in
    rw (p.1, p.2) (ticket_stops c.args.book.now c.args.request.now c.args.ticket.now c.in_ok-asked.asked c.in_ok-asked.ensures.request c.in_err-told.field-0.0 c.in_err-told.ensures)

pub returns-in_err-asked-clause-read : goal.returns-in_err-asked-clause-read
returns-in_err-asked-clause-read c =
    let p = err_from_is_err_and c.from_residual.result c.from_residual.ensures.1 in
    rw (p.1, p.2) (asked_stops_verdict c.args.book.now c.args.request.now c.args.ticket.now c.in_err-asked.field-0.0 c.in_err-asked.ensures.request)
