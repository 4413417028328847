use Rattle.std.proofs.Common.{sym, subst}
use Rattle.fare_book.specs.Keeping.{History}
use Rattle.fare_book.specs.Opened.{KeepsDraft}
use Rattle.fare_book.proofs.OpenBooks.{copied, nothing_filed}
use Rattle.fare_book.proofs.book.open_book.OpenBook.copy_of.Goals as goal

pub invariant_of-result : goal.invariant_of-result
invariant_of-result c =
    let b = c.args.book.now in
    let d = c.in_ok-draft.draft in
    subst (λ v. KeepsDraft v d) (sym (copied b c.book.inside.timetable c.in_ok-timetable.timetable c.book.inside.entries c.in_ok-entries.entries c.as_slice.result.now c.book.view_is c.in_ok-timetable.ensures c.as_slice.ensures c.in_ok-entries.ensures))
    (record { history = subst History c.book.view_is c.book.invariant.history; drafts = nothing_filed b d c.in_ok-draft.ensures })
