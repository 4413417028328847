use Rattle.std.proofs.Common.{◌∙◌, Some, None, sym, ap, subst}
use Rattle.fare_law.specs.Lists.{IsIn}
use Rattle.graph_walk.specs.Steps.{rows_of}
use Rattle.residual_table.specs.contracts.key.ResidualKeyPartialEq.TheImpl as key
use Rattle.search_steps.specs.Keys.{live, state}
use Rattle.fare_calendar.proofs.Rows.{first_costs, no_run_by, row_by}
use Rattle.fare_calendar.proofs.pricing.first_price.Goals as goal

pub returns-in_default-clause-price : goal.returns-in_default-clause-price
returns-in_default-clause-price c =
    let s = c.args.steps.now in
    let es = c.args.rows.now.entries in
    let here = row_by (live s) (state s) key.ghosts.eq c.keys_tell.ensures es c.requires.rows.alive c.args.key c.bound_of.result c.requires.live c.requires.has c.bound_of.ensures in
    no_run_by s.case.book.now s.case.request.now (rows_of (state s) es) (state s c.args.key) c.bound_of.result c.requires.rows.closed here c.in_default.not-Some

pub first_run-requires-clause-run : goal.first_run-requires-clause-run
first_run-requires-clause-run c =
    let s = c.args.steps.now in
    let es = c.args.rows.now.entries in
    (c.in-Some.price, row_by (live s) (state s) key.ghosts.eq c.keys_tell.ensures es c.requires.rows.alive c.args.key (Some c.in-Some.price) c.requires.live c.requires.has (sym c.in-Some.is ∙ c.bound_of.ensures))

pub returns-clause-price : goal.returns-clause-price
returns-clause-price c =
    let s = c.args.steps.now in
    let es = c.args.rows.now.entries in
    let here = row_by (live s) (state s) key.ghosts.eq c.keys_tell.ensures es c.requires.rows.alive c.args.key (Some c.in-Some.price) c.requires.live c.requires.has (sym c.in-Some.is ∙ c.bound_of.ensures) in
    first_costs s.case.book.now s.case.request.now (rows_of (state s) es) (state s c.args.key) c.in-Some.price c.requires.rows.closed here c.in_ok-first_run.ensures.first
