-- What is asked and its days, where they refuse the case, and the whole.
use Rattle.std.proofs.lemmas.Result.{err_from_is_err_and}
use Rattle.case_text.specs.declared.kinds.CaseKind.TheVariants.{Search}
use Rattle.whole_case.specs.Cases.{asked_case}
use Rattle.whole_case.proofs.CaseSteps.{days_given, days_stop, to_calendar}
use Rattle.whole_case.proofs.StageLemmas.{stops}
use Rattle.whole_case.proofs.calendar.load_calendar_case.Goals as goal

pub returns-in_err-asked : goal.returns-in_err-asked
returns-in_err-asked c =
    let p = err_from_is_err_and c.from_residual.result c.from_residual.ensures.1 in
    rw (p.1, p.2) (stops (asked_case Search c.args.at c.args.bytes.now) (to_calendar c.args.outs c.args.backs c.args.at) c.in_err-asked.field-0.0 c.in_err-asked.ensures)

pub returns-in_err-check_days : goal.returns-in_err-check_days
returns-in_err-check_days c =
    let p = err_from_is_err_and c.from_residual-in_err-check_days.result c.from_residual-in_err-check_days.ensures.1 in
    rw (p.1, p.2) (days_stop c.args.outs c.args.backs c.args.at c.args.bytes.now c.in_ok-asked.asked c.in_ok-asked.ensures c.in_err-check_days.field-0.0 c.in_err-check_days.ensures)

pub returns : goal.returns
returns c =
    rw (c.into_parts-book.ensures.book, c.into_parts-book.ensures.request) (days_given c.args.outs c.args.backs c.args.at c.args.bytes.now c.in_ok-asked.asked c.in_ok-asked.ensures c.in_ok-check_days.ensures)
