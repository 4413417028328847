use Rattle.std.proofs.Common.{refl, IfOk, sym, ap, subst}
use Rattle.fare_calendar.specs.Sharing.{IsLike}
use Rattle.fare_calendar.specs.Calendars.{HasValue}
use Rattle.fare_calendar.specs.Cells.{cell}
use Rattle.fare_law.specs.Limits.{IsRequest}
use Rattle.fare_law.specs.declared.requests.Request.{Request}
use Rattle.law_lemmas.proofs.LawFacts.{said_of}
use Rattle.fare_calendar.proofs.columns.value_on.Goals as goal

pub cell_request-request-requires-clause-right : goal.cell_request-request-requires-clause-right
cell_request-request-requires-clause-right c = c.requires.asked.right

pub cell_request-request-requires-clause-two : goal.cell_request-request-requires-clause-two
cell_request-request-requires-clause-two c = c.requires.asked.two

pub shares_moves-requires-clause-steps : goal.shares_moves-requires-clause-steps
shares_moves-requires-clause-steps c = c.requires.steps

pub shares_moves-requires-clause-request : goal.shares_moves-requires-clause-request
shares_moves-requires-clause-request c = subst IsRequest (sym c.cell_request-request.ensures) c.requires.cell

pub shares_moves-requires-clause-like : goal.shares_moves-requires-clause-like
shares_moves-requires-clause-like c = subst (IsLike c.args.steps.now.case.request.now) (sym c.cell_request-request.ensures) c.requires.like

pub value_in-requires-clause-steps : goal.value_in-requires-clause-steps
value_in-requires-clause-steps c = c.requires.steps

pub value_in-requires-clause-request : goal.value_in-requires-clause-request
value_in-requires-clause-request c = subst IsRequest (sym c.cell_request-request.ensures) c.requires.cell

pub value_in-requires-clause-one : goal.value_in-requires-clause-one
value_in-requires-clause-one c = ap (λ (r : Request). r.best) c.cell_request-request.ensures

pub value_in-requires-clause-shares : goal.value_in-requires-clause-shares
value_in-requires-clause-shares c = c.if-shares_moves.ensures refl

pub returns-then-shares_moves-clause-value : goal.returns-then-shares_moves-clause-value
returns-then-shares_moves-clause-value c =
    let a = c.args.asked.now in
    said_of (λ b q. IfOk c.value_in.result (HasValue b q a.budget)) c.args.steps.now.case.book.now a.book.now c.cell_request-request.result (cell a.request.now c.args.out c.args.back) c.requires.book c.cell_request-request.ensures c.value_in.ensures.value

pub returns-then-shares_moves-clause-case : goal.returns-then-shares_moves-clause-case
returns-then-shares_moves-clause-case c = c.value_in.ensures.case

pub value_alone-requires-clause-request : goal.value_alone-requires-clause-request
value_alone-requires-clause-request c = subst IsRequest (sym c.cell_request-request.ensures) c.requires.cell

pub value_alone-requires-clause-one : goal.value_alone-requires-clause-one
value_alone-requires-clause-one c = ap (λ (r : Request). r.best) c.cell_request-request.ensures

pub returns-clause-value : goal.returns-clause-value
returns-clause-value c =
    let a = c.args.asked.now in
    subst (λ (q : Request). IfOk c.value_alone.result (HasValue a.book.now q a.budget)) c.cell_request-request.ensures c.value_alone.ensures

pub returns-clause-case : goal.returns-clause-case
returns-clause-case c = record { book = refl; request = refl }
