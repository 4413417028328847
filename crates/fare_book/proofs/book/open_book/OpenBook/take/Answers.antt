use Rattle.std.proofs.Common.{◌<◌, length, sym, ap, subst, ◌∙◌, arith}
use Rattle.std.specs.Arc.{arc_value}
use Rattle.std.proofs.lemmas.Result.{err_from_is_err_and}
use Rattle.fare_law.specs.Book.{Book}
use Rattle.fare_law.specs.Faults.{filed}
use Rattle.fare_book.specs.Drafts.{Drafts}
use Rattle.fare_book.specs.Keeping.{History}
use Rattle.fare_book.specs.Opened.{KeepsDraft}
use Rattle.fare_book.specs.Taking.{NoneStops, StopsAt}
use Rattle.fare_law.specs.declared.limits.TheConstants.{MOST_ENTRIES}
use Rattle.fare_book.proofs.Causes.{cause_told}
use Rattle.fare_book.proofs.OpenBooks.{entered}
use Rattle.fare_book.proofs.TakingLemmas.{no_fault}
use Rattle.fare_book.proofs.Versions.{filed_nothing, history_more}
use Rattle.law_lemmas.proofs.Lists.{map_length}
use Rattle.fare_book.proofs.book.open_book.OpenBook.take.Goals as goal

pub returns-in_err-take_actions-clause-refused : goal.returns-in_err-take_actions-clause-refused
returns-in_err-take_actions-clause-refused c =
    let b = c.args.self in
    let few : length b.entries < MOST_ENTRIES = subst (λ (v : Book). length v.entries < MOST_ENTRIES) c.self.view_is (omega (arith, c.len.ensures, c.if-len-ge-MOST_ENTRIES.false, map_length arc_value c.self.inside.entries)) in
    let stops = c.in_err-take_actions.ensures.refused b (filed_nothing b c.self.inside.draft (subst (λ v. Drafts v c.self.inside.draft) c.self.view_is c.self.invariant.drafts)) in
    let fault = c.in_err-take_actions.field-0.0 in
    let told = err_from_is_err_and c.from_residual.result c.from_residual.ensures.1 in
    rw (told.1, told.2) (cause_told b (arc_value c.args.filing) fault few (subst (λ xs. StopsAt b xs fault) (c.as_slice.ensures ∙ ap (λ f. f.actions) c.deref.ensures) stops))

pub invariant_of-result : goal.invariant_of-result
invariant_of-result c =
    let b = c.args.self in
    let filing = arc_value c.args.filing in
    let new = c.take_actions.new.draft in
    let few : length b.entries < MOST_ENTRIES = subst (λ (v : Book). length v.entries < MOST_ENTRIES) c.self.view_is (omega (arith, c.len.ensures, c.if-len-ge-MOST_ENTRIES.false, map_length arc_value c.self.inside.entries)) in
    let told = c.in_ok-take_actions.ensures.taken b (filed_nothing b c.self.inside.draft (subst (λ v. Drafts v c.self.inside.draft) c.self.view_is c.self.invariant.drafts)) in
    let taken = subst (λ xs. Drafts (filed b xs) new × NoneStops b xs) (c.as_slice.ensures ∙ ap (λ f. f.actions) c.deref.ensures) told in
    subst (λ v. KeepsDraft v new) (sym (entered b c.self.inside.timetable c.self.inside.entries c.push.new.self c.args.filing c.self.view_is c.in_ok-push.ensures.items))
    (record { history = history_more b filing (subst History c.self.view_is c.self.invariant.history) few c.requires taken.1; drafts = taken.0 })

pub returns-clause-right : goal.returns-clause-right
returns-clause-right c =
    let b = c.args.self in
    let few : length b.entries < MOST_ENTRIES = subst (λ (v : Book). length v.entries < MOST_ENTRIES) c.self.view_is (omega (arith, c.len.ensures, c.if-len-ge-MOST_ENTRIES.false, map_length arc_value c.self.inside.entries)) in
    let told = c.in_ok-take_actions.ensures.taken b (filed_nothing b c.self.inside.draft (subst (λ v. Drafts v c.self.inside.draft) c.self.view_is c.self.invariant.drafts)) in
    no_fault b (arc_value c.args.filing) few (subst (NoneStops b) (c.as_slice.ensures ∙ ap (λ f. f.actions) c.deref.ensures) told.1)
