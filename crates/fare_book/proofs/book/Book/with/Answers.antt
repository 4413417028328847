use Rattle.std.proofs.Common.{◌<◌, length, ap, subst, ◌∙◌, arith}
use Rattle.std.specs.Arc.{arc_value}
use Rattle.fare_law.specs.Book.{Book}
use Rattle.fare_law.specs.Faults.{filed}
use Rattle.fare_book.specs.Drafts.{Drafts}
use Rattle.fare_book.specs.Taking.{NoneStops, StopsAt}
use Rattle.fare_law.specs.declared.limits.TheConstants.{MOST_ENTRIES}
use Rattle.fare_book.proofs.Causes.{cause_told}
use Rattle.fare_book.proofs.TakingLemmas.{no_fault}
use Rattle.law_lemmas.proofs.Lists.{map_length}
use Rattle.fare_book.proofs.book.Book.with.Goals as goal

pub finish-requires-clause-taken : goal.finish-requires-clause-taken
finish-requires-clause-taken c =
    let b = c.args.self.now in
    let told = c.in-Ok.ensures.taken b c.in_ok-draft.ensures in
    subst (λ xs. Drafts (filed b xs) c.take_actions.new.draft) (c.as_slice.ensures ∙ ap (λ f. f.actions) c.deref.ensures) told.0

pub finish-requires-clause-faultless : goal.finish-requires-clause-faultless
finish-requires-clause-faultless c =
    let b = c.args.self.now in
    let told = c.in-Ok.ensures.taken b c.in_ok-draft.ensures in
    subst (NoneStops b) (c.as_slice.ensures ∙ ap (λ f. f.actions) c.deref.ensures) told.1

pub returns-in_ok-finish-in-Ok-clause-right : goal.returns-in_ok-finish-in-Ok-clause-right
returns-in_ok-finish-in-Ok-clause-right c =
    let b = c.args.self.now in
    let few : length b.entries < MOST_ENTRIES = subst (λ (v : Book). length v.entries < MOST_ENTRIES) c.self.view_is (omega (arith, c.len.ensures, c.if-len-ge-MOST_ENTRIES.false, map_length arc_value c.self.inside.entries)) in
    let told = c.in-Ok.ensures.taken b c.in_ok-draft.ensures in
    no_fault b (arc_value c.args.filing) few (subst (NoneStops b) (c.as_slice.ensures ∙ ap (λ f. f.actions) c.deref.ensures) told.1)

pub returns-in-Err-clause-refused : goal.returns-in-Err-clause-refused
returns-in-Err-clause-refused c =
    let b = c.args.self.now in
    let few : length b.entries < MOST_ENTRIES = subst (λ (v : Book). length v.entries < MOST_ENTRIES) c.self.view_is (omega (arith, c.len.ensures, c.if-len-ge-MOST_ENTRIES.false, map_length arc_value c.self.inside.entries)) in
    let stops = c.in-Err.ensures.refused b c.in_ok-draft.ensures in
    cause_told b (arc_value c.args.filing) c.in-Err.fault few (subst (λ xs. StopsAt b xs c.in-Err.fault) (c.as_slice.ensures ∙ ap (λ f. f.actions) c.deref.ensures) stops)
