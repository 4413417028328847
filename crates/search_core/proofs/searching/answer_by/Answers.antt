use Rattle.std.proofs.Common.{map, subst, sym}
use Rattle.certificate.specs.AnswerCheck.{run_of}
use Rattle.certificate.specs.CertOf.{RowsAre}
use Rattle.graph_walk.specs.Steps.{AreLive, rows_of}
use Rattle.graph_walk.proofs.RowFacts.{live_rows, same_rows}
use Rattle.pricing_graph.specs.Graphs.{IsGraph}
use Rattle.residual_keys.specs.Searches.{BestRuns}
use Rattle.residual_table.specs.Keys.{IsLive, residual_at}
use Rattle.search_core.proofs.RunTickets.{still_best}
use Rattle.search_steps.specs.Numbers.{Numbered}
use Rattle.law_lemmas.proofs.LawFacts.{said_of}
use Rattle.search_core.proofs.searching.answer_by.Goals as goal

pub rows_of-requires : goal.rows_of-requires
rows_of-requires c =
    let before = c.args.steps.now.case.numbers in
    let after = c.runs.new.steps.case.numbers in
    let es = c.args.graph.now.rows.entries in
    let alive = live_rows (IsLive before) (IsLive after) (residual_at before) (residual_at after) c.in_ok-runs.ensures.keeps es c.requires.live in
    subst (λ (x : Numbered). AreLive (IsLive x.numbers) es) (sym c.let_go.ensures.same) alive

pub answer_of-requires-clause-rows : goal.answer_of-requires-clause-rows
answer_of-requires-clause-rows c =
    let book = sym c.case-case.ensures.book in
    let request = sym c.case-case.ensures.request in
    let b = c.args.steps.now.case.book.now in
    let q = c.args.steps.now.case.request.now in
    let before = c.args.steps.now.case.numbers in
    let after = c.runs.new.steps.case.numbers in
    let es = c.args.graph.now.rows.entries in
    let same = same_rows (IsLive before) (IsLive after) (residual_at before) (residual_at after) c.in_ok-runs.ensures.keeps es c.requires.live in
    let graph = subst (IsGraph b q) (sym same) c.requires.graph in
    let kept = subst (λ (x : Numbered). IsGraph b q (rows_of (residual_at x.numbers) es)) (sym c.let_go.ensures.same) graph in
    said_of (λ x y. RowsAre x y c.in_ok-rows.rows) _ _ _ _ book request (c.in_ok-rows.ensures.rows _ _ kept)

pub answer_of-requires-clause-runs : goal.answer_of-requires-clause-runs
answer_of-requires-clause-runs c =
    let best = still_best _ _ _ _ c.in_ok-runs.runs c.in_ok-answers.answers c.from.ensures c.in_ok-answers.ensures c.in_ok-runs.ensures.runs in
    said_of (λ b q. BestRuns b q c.case-case.result.request.now.best (map run_of c.in_ok-answers.answers)) _ _ _ _ (sym c.case-case.ensures.book) (sym c.case-case.ensures.request) best
