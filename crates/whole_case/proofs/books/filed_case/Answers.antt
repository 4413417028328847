-- The book, where it refuses the case, and the whole.
use Rattle.std.proofs.lemmas.Result.{err_from_is_err_and}
use Rattle.whole_case.proofs.BookSteps.{book_stops, filed}
use Rattle.whole_case.proofs.books.filed_case.Goals as goal

pub returns-in_err-book-clause-case : goal.returns-in_err-book-clause-case
returns-in_err-book-clause-case c =
    let p = err_from_is_err_and c.from_residual-in_err-book.result c.from_residual-in_err-book.ensures.1 in
    rw (p.1, p.2) (book_stops c.args.kind c.args.at c.args.bytes.now c.in_ok-case.case c.in_ok-case.ensures.case c.in_err-book.field-0.0 c.in_err-book.ensures)

pub returns-clause-case : goal.returns-clause-case
returns-clause-case c = filed c.args.kind c.args.at c.args.bytes.now c.in_ok-case.case c.in_ok-case.ensures.case c.in_ok-book.book c.in_ok-book.ensures
