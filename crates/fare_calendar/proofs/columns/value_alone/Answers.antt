use Rattle.std.proofs.Common.{IfOk, sym, subst}
use Rattle.fare_calendar.specs.Sharing.{SharesMoves}
use Rattle.fare_calendar.proofs.SharedMoves.{shares_self}
use Rattle.fare_calendar.specs.Calendars.{HasValue}
use Rattle.fare_law.specs.Book.{Book}
use Rattle.fare_law.specs.Limits.{IsRequest}
use Rattle.law_lemmas.proofs.LawFacts.{said_of}
use Rattle.fare_calendar.proofs.columns.value_alone.Goals as goal

pub value_in-requires-clause-steps : goal.value_in-requires-clause-steps
value_in-requires-clause-steps c = subst IsRequest (sym c.new-steps.ensures.request) c.requires.request

pub value_in-requires-clause-request : goal.value_in-requires-clause-request
value_in-requires-clause-request c = c.requires.request

pub value_in-requires-clause-one : goal.value_in-requires-clause-one
value_in-requires-clause-one c = c.requires.one

pub value_in-requires-clause-shares : goal.value_in-requires-clause-shares
value_in-requires-clause-shares c =
    let b = c.args.asked.now.book.now in
    let q = c.args.request.now in
    let s = c.new-steps.result in
    said_of (λ d r. SharesMoves d r q) b s.case.book.now q s.case.request.now (sym c.new-steps.ensures.book) (sym c.new-steps.ensures.request) (shares_self b q)

pub returns : goal.returns
returns c = subst (λ (b : Book). IfOk c.value_in.result (HasValue b c.args.request.now c.args.asked.now.budget)) c.new-steps.ensures.book c.value_in.ensures.value
