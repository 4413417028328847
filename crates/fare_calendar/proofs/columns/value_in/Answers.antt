use Rattle.std.proofs.Common.{◌∙◌, ap, sym, subst}
use Rattle.fare_calendar.specs.Calendars.{HasValue}
use Rattle.fare_law.specs.Book.{Book}
use Rattle.fare_law.specs.Flights.{Ascending}
use Rattle.fare_calendar.proofs.Values.{large_told, value_is}
use Rattle.fare_calendar.proofs.columns.value_in.Goals as goal

pub least_price-requires-clause-steps : goal.least_price-requires-clause-steps
least_price-requires-clause-steps c = c.requires.steps

pub least_price-requires-clause-request : goal.least_price-requires-clause-request
least_price-requires-clause-request c = c.requires.request

pub least_price-requires-clause-shares : goal.least_price-requires-clause-shares
least_price-requires-clause-shares c = c.requires.shares

pub returns-in-Ok-clause-case : goal.returns-in-Ok-clause-case
returns-in-Ok-clause-case c = c.least_price.ensures.case

pub returns-in-Err-TooLarge-clause-case : goal.returns-in-Err-TooLarge-clause-case
returns-in-Err-TooLarge-clause-case c = c.least_price.ensures.case

pub returns-in-Err-Mem-clause-case : goal.returns-in-Err-Mem-clause-case
returns-in-Err-Mem-clause-case c = c.least_price.ensures.case

pub returns-in-Ok-clause-value : goal.returns-in-Ok-clause-value
returns-in-Ok-clause-value c =
    let b = c.args.steps.now.case.book.now in
    let r = c.args.request.now in
    let ascending : Ascending b.timetable.flights = subst Ascending (sym c.schedule.ensures.flights ∙ ap (λ (d : Book). d.timetable.flights) c.case.ensures.book) c.flights.ensures.ascending in
    subst (HasValue b r c.args.budget) (sym c.told.ensures)
    (value_is b r c.args.budget c.in-Ok.price c.requires.one (λ ds best. c.best_runs.ensures.tickets b r ascending ds best) c.in-Ok.ensures.fits c.in-Ok.ensures.price)

pub returns-in-Err-TooLarge-clause-value : goal.returns-in-Err-TooLarge-clause-value
returns-in-Err-TooLarge-clause-value c =
    large_told c.args.steps.now.case.book.now c.args.request.now c.args.budget _ c.in-Err-TooLarge.field-0 c.in-Err-TooLarge.field-0-is c.in-Err-TooLarge.ensures.large
