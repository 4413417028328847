use Rattle.std.proofs.Common.{arith}
use Rattle.fare_calendar.proofs.cells.days_from.Goals as goal

pub returns-then-left-le-MOST_WINDOW_DAYS-clause-days : goal.returns-then-left-le-MOST_WINDOW_DAYS-clause-days
returns-then-left-le-MOST_WINDOW_DAYS-clause-days c =
    let first = c.requires in
    let few = c.if-left-le-MOST_WINDOW_DAYS.true in
    record { some = omega (arith, first); few = omega (arith, few); within = omega (arith, first) }

pub returns-clause-days : goal.returns-clause-days
returns-clause-days c =
    let first = c.requires in
    let many = c.if-left-le-MOST_WINDOW_DAYS.false in
    record { some = omega arith; few = omega arith; within = omega (arith, first, many) }
