-- The ticket and the version, where they refuse the case, and the whole.
use Rattle.std.proofs.lemmas.Result.{err_from_is_err_and}
use Rattle.whole_case.specs.Tickets.{ticket_in}
use Rattle.whole_case.proofs.CaseSteps.{in_it, number_stops, stage_stops}
use Rattle.whole_case.proofs.verdict.ticket_of.Goals as goal

pub returns-in_err-ticket : goal.returns-in_err-ticket
returns-in_err-ticket c =
    let p = err_from_is_err_and c.from_residual.result c.from_residual.ensures.1 in
    let asked = c.args.asked.now in
    rw (p.1, p.2) (stage_stops c.args.at asked (ticket_in asked.book asked.ticket) c.in_err-ticket.field-0.0 c.in_err-ticket.ensures)

pub returns-in_err-check_version : goal.returns-in_err-check_version
returns-in_err-check_version c =
    let p = err_from_is_err_and c.from_residual-in_err-check_version.result c.from_residual-in_err-check_version.ensures.1 in
    let asked = c.args.asked.now in
    rw (p.1, p.2) (number_stops c.args.at asked (ticket_in asked.book asked.ticket) c.in_ok-ticket.ticket c.in_ok-ticket.ensures c.in_err-check_version.field-0.0 c.in_err-check_version.ensures)

pub returns : goal.returns
returns c =
    let asked = c.args.asked.now in
    in_it c.args.at asked (ticket_in asked.book asked.ticket) c.in_ok-ticket.ticket c.in_ok-ticket.ensures c.in_ok-check_version.ensures
