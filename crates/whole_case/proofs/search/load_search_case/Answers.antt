-- What is asked and the version, where they refuse the case, and the whole.
use Rattle.std.proofs.lemmas.Result.{err_from_is_err_and}
use Rattle.whole_case.proofs.CaseSteps.{search_number_stops, search_stops, search_given}
use Rattle.whole_case.proofs.search.load_search_case.Goals as goal

pub returns-in_err-asked : goal.returns-in_err-asked
returns-in_err-asked c =
    let p = err_from_is_err_and c.from_residual.result c.from_residual.ensures.1 in
    rw (p.1, p.2) (search_stops c.args.best c.args.at c.args.bytes.now c.in_err-asked.field-0.0 c.in_err-asked.ensures)

pub returns-in_err-check_version : goal.returns-in_err-check_version
returns-in_err-check_version c =
    let p = err_from_is_err_and c.from_residual-in_err-check_version.result c.from_residual-in_err-check_version.ensures.1 in
    rw (p.1, p.2) (search_number_stops c.args.best c.args.at c.args.bytes.now c.in_ok-asked.asked c.in_ok-asked.ensures c.in_err-check_version.field-0.0 c.in_err-check_version.ensures)

pub returns : goal.returns
returns c =
    rw (c.into_parts-book.ensures.book, c.with_best.ensures, c.into_parts-book.ensures.request) (search_given c.args.best c.args.at c.args.bytes.now c.in_ok-asked.asked c.in_ok-asked.ensures c.in_ok-check_version.ensures)
