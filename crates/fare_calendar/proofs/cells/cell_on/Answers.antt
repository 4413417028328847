use Rattle.std.proofs.Common.{◌≡◌, ◌+◌, length, sym, subst, arith}
use Rattle.fare_law.specs.declared.requests.Request.{Request}
use Rattle.fare_calendar.proofs.CellRequests.{cell_is, cell_two, few_outs, out_within}
use Rattle.fare_calendar.proofs.Values.{cell_dated, cell_found}
use Rattle.fare_calendar.proofs.cells.cell_on.Goals as goal

pub overflow_add-out : goal.overflow_add-out
overflow_add-out c =
    let within = c.requires.days.within in
    let later = c.requires.later in
    let most = few_outs c.args.asked.now.request.now c.args.asked.now.spans c.requires.asked in
    omega (arith, within, later, most)

pub cell_request-request-requires-clause-right : goal.cell_request-request-requires-clause-right
cell_request-request-requires-clause-right c = c.requires.asked.right

pub cell_request-request-requires-clause-two : goal.cell_request-request-requires-clause-two
cell_request-request-requires-clause-two c = c.requires.asked.two

pub column_at-column-requires : goal.column_at-column-requires
column_at-column-requires c =
    let many = c.requires.columns.many in
    let back = c.requires.back in
    omega (arith, many, back)

pub value_at-value-requires : goal.value_at-value-requires
value_at-value-requires c =
    let column = c.requires.columns.each c.args.back c.column_at-column.result.now c.column_at-column.ensures in
    let many = column.many in
    let later = c.requires.later in
    omega (arith, many, later)

pub cell_of-requires : goal.cell_of-requires
cell_of-requires c =
    let q = c.args.asked.now.request.now in
    subst (λ (r : Request). length r.slices ≡ 2) (sym c.cell_request-request.ensures) (cell_two q (c.args.outs.first + c.args.later) c.args.back c.requires.asked.two)

pub returns-clause-cell : goal.returns-clause-cell
returns-clause-cell c =
    let a = c.args.asked.now in
    let column = c.requires.columns.each c.args.back c.column_at-column.result.now c.column_at-column.ensures in
    cell_found a.book.now a.request.now c.cell_request-request.result a.budget (c.args.outs.first + c.args.later) c.args.back c.cell_of.result c.value_at-value.result
    c.cell_request-request.ensures c.cell_of.ensures.days c.cell_of.ensures.value (column.each c.args.later c.value_at-value.result c.value_at-value.ensures)

pub returns-clause-dates : goal.returns-clause-dates
returns-clause-dates c =
    let a = c.args.asked.now in
    let out = c.args.outs.first + c.args.later in
    cell_dated a.request.now c.cell_request-request.result out c.args.back c.cell_of.result c.cell_request-request.ensures c.cell_of.ensures.days
    (cell_is a.request.now a.spans out c.args.back c.requires.asked (out_within a.spans c.args.outs c.args.later c.requires.days c.requires.later) c.requires.back)
