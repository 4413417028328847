-- What an open copy makes of the lines.
use Rattle.std.proofs.Common.{Err, sym, subst, ◌∙◌}
use Rattle.std.proofs.lemmas.Result.{err_from_is_err_and}
use Rattle.fare_law.specs.Book.{Book}
use Rattle.whole_case.specs.Filings.{filed}
use Rattle.whole_case.specs.Stages.{Reads, done}
use Rattle.whole_case.proofs.FiledLines.{empty_is, none_taken}
use Rattle.whole_case.proofs.StageLemmas.{stops}
use Rattle.whole_case.proofs.filings.judged.Goals as goal

pub returns-then-is_empty : goal.returns-then-is_empty
returns-then-is_empty c = none_taken c.args.book.now c.args.lines.now (empty_is c.args.lines.now (sym c.is_empty.ensures ∙ c.if-is_empty.true))

pub returns-in_err-_last : goal.returns-in_err-_last
returns-in_err-_last c =
    let lines = c.args.lines.now in
    let fault = c.in_err-_last.field-0.0 in
    let p = err_from_is_err_and c.from_residual-in_err-_last.result c.from_residual-in_err-_last.ensures.1 in
    rw (p.1, p.2) (stops (filed c.args.book.now lines) (λ _. done tt) fault (subst (λ b. Reads {A = Book} (Err fault) (filed b lines)) c.in_ok-copy_of.ensures c.in_err-_last.ensures))
