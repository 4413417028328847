use Rattle.std.proofs.Common.{◌≤◌, length, sym, subst, arith}
use Rattle.fare_book.specs.Keeping.{Limited}
use Rattle.fare_law.specs.Limits.{IsRequest}
use Rattle.fare_law.specs.Lists.{IsIn}
use Rattle.graph_walk.specs.Steps.{rows_of}
use Rattle.graph_walk.specs.Walks.{states}
use Rattle.graph_walk.specs.Walks.Reached.{here}
use Rattle.graph_walk.proofs.RowFacts.{rows_length}
use Rattle.law_lemmas.proofs.LawFacts.{said_of}
use Rattle.pricing_graph.specs.Graphs.{IsTooLarge}
use Rattle.pricing_graph.proofs.Whole.{large_as}
use Rattle.residual_keys.specs.Residuals.{State}
use Rattle.search_steps.specs.Keys.{state}
use Rattle.fare_calendar.specs.FirstRuns.{AreClosed}
use Rattle.fare_calendar.proofs.Rows.{closed_rows}
use Rattle.fare_calendar.proofs.Shared.{few_reached, short_steps, too_many}
use Rattle.fare_calendar.proofs.pricing.reached_rows.Goals as goal

pub reached-requires-clause-short : goal.reached-requires-clause-short
reached-requires-clause-short c =
    let s = c.args.steps.now in
    let b = s.case.book.now in
    let r = c.args.request.now in
    let root = state s c.args.key in
    short_steps b s.case.request.now r root c.requires.shares c.requires.root c.requires.request (subst Limited c.case.ensures.book c.limits.ensures) c.limits_are_met.ensures.charged c.limits_are_met.ensures.surcharged (c.reached_states_are_reached.ensures.short b r root)

pub returns-in-Ok-clause-rows : goal.returns-in-Ok-clause-rows
returns-in-Ok-clause-rows c =
    let s = c.args.steps.now in
    let t = c.reached.new.self in
    let b = s.case.book.now in
    let q = s.case.request.now in
    let r = c.args.request.now in
    let root = state s c.args.key in
    let nodes = rows_of (state t) c.in-Ok.rows.entries in
    let short = short_steps b q r root c.requires.shares c.requires.root c.requires.request (subst Limited c.case.ensures.book c.limits.ensures) c.limits_are_met.ensures.charged c.limits_are_met.ensures.surcharged (c.reached_states_are_reached.ensures.short b r root) in
    record {
      request = subst IsRequest (sym c.reached.ensures.case.request) c.requires.steps;
      alive = c.in-Ok.ensures.alive;
      closed =
          said_of (λ b q. AreClosed b q nodes) b t.case.book.now q t.case.request.now (sym c.reached.ensures.case.book) (sym c.reached.ensures.case.request)
          (closed_rows b q root nodes c.in-Ok.ensures.reached c.in-Ok.ensures.least short (λ x bound h. c.least_prices_are_least.ensures b q x bound h));
    }

pub returns-in-Ok-clause-has : goal.returns-in-Ok-clause-has
returns-in-Ok-clause-has c =
    let t = c.reached.new.self in
    let nodes = rows_of (state t) c.in-Ok.rows.entries in
    subst (λ (x : State). IsIn x (states nodes)) (sym (c.reached.ensures.keeps c.args.key c.requires.live).1) ((c.in-Ok.ensures.reached.are (state c.args.steps.now c.args.key)).1 here)

pub returns-in-Ok-clause-fits : goal.returns-in-Ok-clause-fits
returns-in-Ok-clause-fits c =
    let s = c.args.steps.now in
    let t = c.reached.new.self in
    let entries = c.in-Ok.rows.entries in
    let nodes = rows_of (state t) entries in
    let few : length nodes ≤ c.args.budget = let n = c.in-Ok.ensures.few in omega (arith, n, rows_length (state t) entries) in
    few_reached s.case.book.now s.case.request.now c.args.request.now c.requires.shares (state s c.args.key) c.requires.root nodes c.args.budget c.in-Ok.ensures.reached few

pub returns-in-Err-clause-large : goal.returns-in-Err-clause-large
returns-in-Err-clause-large c =
    let s = c.args.steps.now in
    let b = s.case.book.now in
    let r = c.args.request.now in
    subst (IsTooLarge b r c.args.budget) (sym c.fault_of.ensures) (large_as b r c.args.budget c.in-Err.fault (too_many b s.case.request.now r c.requires.shares (state s c.args.key) c.requires.root c.args.budget c.in-Err.fault c.in-Err.ensures.large))
