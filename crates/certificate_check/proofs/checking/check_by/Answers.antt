use Rattle.std.proofs.Common.{◌∙◌, List, map, sym, subst, arith}
use Rattle.certificate.specs.BoundCheck.{BoundsFail, BoundsHold}
use Rattle.certificate.specs.declared.parts.CertRow.{CertRow}
use Rattle.certificate.specs.DepartureCheck.{DeparturesFail, DeparturesHold}
use Rattle.certificate.specs.RowCheck.{RowsHold}
use Rattle.certificate_check.proofs.Judged.{all_hold, few_answers, four_hold, last_fails, none_case}
use Rattle.certificate_check.proofs.KnownBounds.{rows_differ}
use Rattle.certificate_check.proofs.LaterSteps.{has_still}
use Rattle.certificate_check.specs.Tables.{HasRows}
use Rattle.fare_law.specs.Lists.{AllDifferent}
use Rattle.certificate_check.proofs.checking.check_by.Goals as goal

pub table_of-requires-clause-differ : goal.table_of-requires-clause-differ
table_of-requires-clause-differ c = rows_differ c.residual_order.ensures.order c.args.book.now c.args.request.now c.args.certificate.now.rows c.requires.hold.0

pub bounds_fail-requires-clause-differ : goal.bounds_fail-requires-clause-differ
bounds_fail-requires-clause-differ c =
    subst (λ (rows : List CertRow). AllDifferent (map (λ (row : CertRow). row.residual) rows)) (sym c.in_ok-table.ensures.rows) (rows_differ c.residual_order.ensures.order c.args.book.now c.args.request.now c.args.certificate.now.rows c.requires.hold.0)

pub departures_fail-requires-clause-differ : goal.departures_fail-requires-clause-differ
departures_fail-requires-clause-differ c =
    subst (λ (rows : List CertRow). AllDifferent (map (λ (row : CertRow). row.residual) rows)) (sym c.in_ok-table.ensures.rows) (rows_differ c.residual_order.ensures.order c.args.book.now c.args.request.now c.args.certificate.now.rows c.requires.hold.0)

pub departures_fail-requires-clause-table : goal.departures_fail-requires-clause-table
departures_fail-requires-clause-table c =
    let table = c.in_ok-table.table in
    let has = subst (HasRows c.args.steps.now table.bounds) (sym c.in_ok-table.ensures.rows) c.in_ok-table.ensures.bounds in
    has_still c.args.steps.now c.bounds_fail.new.steps c.in_ok-place.ensures.later.keeps table.bounds table.rows.now has

pub departures_fail-requires-clause-few : goal.departures_fail-requires-clause-few
departures_fail-requires-clause-few c =
    let few = few_answers c.args.book.now c.args.request.now c.as_slice-answers.result.now c.in_default-answers_fail.ensures in
    let best = c.requires.request.best in
    omega (arith, few, best)

pub returns-in-Some-request_fails : goal.returns-in-Some-request_fails
returns-in-Some-request_fails c =
    let b = c.args.book.now in
    let q = c.args.request.now in
    let rows = c.in_ok-table.table.rows.now in
    let answers = c.as_slice-answers.result.now in
    let s = c.args.steps.now.case in
    let t = c.bounds_fail.new.steps.case in
    let book = c.requires.of_book in
    let request = c.requires.of_request in
    let bounds = none_case (BoundsHold s.book.now s.request.now rows) (BoundsFail s.book.now s.request.now rows) c.in_ok-place.field-0 c.in_default.is c.in_ok-place.ensures.fails in
    let departures = none_case (DeparturesHold t.book.now t.request.now rows answers) (DeparturesFail t.book.now t.request.now rows answers) c.in_ok-place-2.field-0 c.in_default-2.is c.in_ok-place-2.ensures.fails in
    let four =
    four_hold c.args.certificate.now b s.book.now t.book.now q s.request.now t.request.now rows answers c.in_ok-table.ensures.rows c.as_slice-answers.ensures book request (c.in_ok-place.ensures.later.case.book ∙ book)
    (c.in_ok-place.ensures.later.case.request ∙ request) (subst (RowsHold b q) (sym c.in_ok-table.ensures.rows) c.requires.hold) bounds c.in_default-answers_fail.ensures departures
    in
    last_fails c.args.certificate.now b q c.in-Some-request_fails.place four c.in-Some-request_fails.ensures

pub returns : goal.returns
returns c =
    let b = c.args.book.now in
    let q = c.args.request.now in
    let rows = c.in_ok-table.table.rows.now in
    let answers = c.as_slice-answers.result.now in
    let s = c.args.steps.now.case in
    let t = c.bounds_fail.new.steps.case in
    let book = c.requires.of_book in
    let request = c.requires.of_request in
    let bounds = none_case (BoundsHold s.book.now s.request.now rows) (BoundsFail s.book.now s.request.now rows) c.in_ok-place.field-0 c.in_default.is c.in_ok-place.ensures.fails in
    let departures = none_case (DeparturesHold t.book.now t.request.now rows answers) (DeparturesFail t.book.now t.request.now rows answers) c.in_ok-place-2.field-0 c.in_default-2.is c.in_ok-place-2.ensures.fails in
    let four =
    four_hold c.args.certificate.now b s.book.now t.book.now q s.request.now t.request.now rows answers c.in_ok-table.ensures.rows c.as_slice-answers.ensures book request (c.in_ok-place.ensures.later.case.book ∙ book)
    (c.in_ok-place.ensures.later.case.request ∙ request) (subst (RowsHold b q) (sym c.in_ok-table.ensures.rows) c.requires.hold) bounds c.in_default-answers_fail.ensures departures
    in
    all_hold c.args.certificate.now b q four c.in_default-request_fails.ensures
