-- What is asked and the ticket, where they refuse the case, and the whole.
use Rattle.std.proofs.lemmas.Result.{err_from_is_err_and}
use Rattle.case_text.specs.declared.kinds.CaseKind.TheVariants.{Verdict}
use Rattle.whole_case.specs.Tickets.{ticket_in}
use Rattle.whole_case.proofs.CaseSteps.{asks_stop, more_given, more_stops, ticketed}
use Rattle.whole_case.proofs.verdict.load_verdict_case.Goals as goal

pub returns-in_err-asked : goal.returns-in_err-asked
returns-in_err-asked c =
    let p = err_from_is_err_and c.from_residual.result c.from_residual.ensures.1 in
    rw (p.1, p.2) (asks_stop Verdict c.args.at c.args.bytes.now (λ asked. ticket_in asked.book asked.ticket) ticketed c.in_err-asked.field-0.0 c.in_err-asked.ensures)

pub returns-in_err-ticket : goal.returns-in_err-ticket
returns-in_err-ticket c =
    let p = err_from_is_err_and c.from_residual-in_err-ticket.result c.from_residual-in_err-ticket.ensures.1 in
    rw (p.1, p.2) (more_stops Verdict c.args.at c.args.bytes.now (λ asked. ticket_in asked.book asked.ticket) ticketed c.in_ok-asked.asked c.in_ok-asked.ensures c.in_err-ticket.field-0.0 c.in_err-ticket.ensures)

pub returns : goal.returns
returns c =
    rw (c.into_parts-book.ensures.book, c.into_parts-book.ensures.request) (more_given Verdict c.args.at c.args.bytes.now (λ asked. ticket_in asked.book asked.ticket) ticketed
    c.in_ok-asked.asked c.in_ok-asked.ensures c.in_ok-ticket.ticket c.in_ok-ticket.ensures)
