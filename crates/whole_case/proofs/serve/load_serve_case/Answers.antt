-- The stages up to the filings and those after them, where they refuse the case, and the whole.
use Rattle.std.proofs.lemmas.Result.{err_from_is_err_and}
use Rattle.whole_case.proofs.ServeSteps.{asks_refuse, filed_stops, serves}
use Rattle.whole_case.proofs.serve.load_serve_case.Goals as goal

pub returns-in_err-filed-clause-case : goal.returns-in_err-filed-clause-case
returns-in_err-filed-clause-case c =
    let p = err_from_is_err_and c.from_residual.result c.from_residual.ensures.1 in
    rw (p.1, p.2) (filed_stops c.args.best c.args.bytes.now c.in_err-filed.field-0.0 c.in_err-filed.ensures.case)

pub returns-in_err-asks-clause-case : goal.returns-in_err-asks-clause-case
returns-in_err-asks-clause-case c =
    let p = err_from_is_err_and c.from_residual-in_err-asks.result c.from_residual-in_err-asks.ensures.1 in
    rw (p.1, p.2) (asks_refuse c.args.best c.args.bytes.now c.in_ok-filed.filed c.in_ok-filed.ensures.case c.in_err-asks.field-0.0 c.in_err-asks.ensures.asks)

pub returns-clause-case : goal.returns-clause-case
returns-clause-case c = rw (c.into_book.ensures) (serves c.args.best c.args.bytes.now c.in_ok-filed.filed c.in_ok-filed.ensures.case c.in_ok-asks.asks c.in_ok-asks.ensures.asks)
