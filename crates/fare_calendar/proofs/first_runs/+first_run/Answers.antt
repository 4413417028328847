use Rattle.std.proofs.Common.{ℕ, List, Option, Some, IfSome, option_map, sym, subst, arith}
use Rattle.fare_law.specs.Lists.{IsIn}
use Rattle.graph_walk.specs.Steps.{rows_of}
use Rattle.graph_walk.proofs.RowFacts.{row_in, same_rows}
use Rattle.residual_keys.specs.Residuals.{State}
use Rattle.residual_table.specs.declared.key.ResidualKey.{ResidualKey}
use Rattle.search_steps.specs.Keys.{live, state}
use Rattle.fare_calendar.specs.FirstRuns.{FirstGoes, GoesOn}
use Rattle.fare_calendar.proofs.Rows.{still_tell}
use Rattle.fare_calendar.proofs.first_runs.+first_run.Goals as goal

pub unreachable-requires : goal.unreachable-requires
unreachable-requires m c =
    let s = c.args.steps.now in
    let t = c.first_left.new.steps in
    let nodes = rows_of (state s) c.args.rows.now.entries in
    let x = state s c.args.key in
    let g : GoesOn s.case.book.now s.case.request.now nodes x (state t c.in-Some.next) = subst (λ (o : Option ResidualKey). FirstGoes s.case.book.now s.case.request.now nodes x (option_map (state t) o)) c.in-Some.is c.in_ok-next.ensures.goes in
    let low = c.requires.rows.closed.low (state t c.in-Some.next) (row_in (state t c.in-Some.next) (Some g.run.0) nodes g.run.1) in
    let up = g.later in
    let many = c.requires.many in
    let none = c.if-more-eq0.true in
    omega (arith, low, up, many, none)

pub first_run-requires : goal.first_run-requires
first_run-requires m c =
    let s = c.args.steps.now in
    let t = c.first_left.new.steps in
    let es = c.args.rows.now.entries in
    let nodes = rows_of (state s) es in
    let x = state s c.args.key in
    let y = state t c.in-Some.next in
    let g : GoesOn s.case.book.now s.case.request.now nodes x y = subst (λ (o : Option ResidualKey). FirstGoes s.case.book.now s.case.request.now nodes x (option_map (state t) o)) c.in-Some.is c.in_ok-next.ensures.goes in
    let case = c.in_ok-next.ensures.case in
    let keeps = c.in_ok-next.ensures.keeps in
    let alive = subst (λ (o : Option ResidualKey). IfSome o (live t)) c.in-Some.is c.in_ok-next.ensures.live in
    let run : IsIn (y, Some g.run.0) (rows_of (state t) es) = subst (λ (ns : List (State × Option ℕ)). IsIn (y, Some g.run.0) ns) (sym (same_rows (live s) (live t) (state s) (state t) keeps es c.requires.rows.alive)) g.run.1 in
    let up = g.later in
    let many = c.requires.many in
    let some = c.if-more-eq0.false in
    let measure = c.decreases in
    (omega (arith, measure, some), (still_tell s t es case keeps c.requires.rows, (alive, ((g.run.0, run), omega (arith, up, many, some)))))
