-- The book that is opened is the one that is closed.
use Rattle.std.proofs.Common.{Err, subst}
use Rattle.std.proofs.lemmas.Result.{err_from_is_err_and}
use Rattle.fare_law.specs.Book.{Book}
use Rattle.whole_case.specs.Filings.{filed}
use Rattle.whole_case.specs.Stages.{Reads}
use Rattle.whole_case.proofs.filings.filed.Goals as goal

pub returns-in_err-book : goal.returns-in_err-book
returns-in_err-book c =
    let lines = c.args.lines.now in
    let fault = c.in_err-book.field-0.0 in
    let p = err_from_is_err_and c.from_residual.result c.from_residual.ensures.1 in
    rw (p.1, p.2) (subst (λ b. Reads {A = Book} (Err fault) (filed b lines)) c.of.ensures c.in_err-book.ensures)
