use Rattle.std.proofs.Common.{◌<◌, map, sym, subst}
use Rattle.std.proofs.lemmas.Result.{IfOk-weaker}
use Rattle.best_steps.specs.Runs.{IsRun}
use Rattle.fare_law.specs.Limits.{IsRequest}
use Rattle.fare_law.specs.Lists.{Each, Matched}
use Rattle.graph_walk.specs.Steps.{rows_of}
use Rattle.graph_walk.specs.Walks.{states}
use Rattle.residual_keys.specs.Searches.{BestRuns}
use Rattle.residual_keys.specs.Written.{InLimits}
use Rattle.search_steps.specs.Keys.{live, state}
use Rattle.pricing_graph.specs.DrawnRuns.{HasMoves, IsReadAs, run_of_drawn}
use Rattle.pricing_graph.specs.Graphs.{IsGraph}
use Rattle.pricing_graph.specs.NodeSteps.{HasNodeStep}
use Rattle.pricing_graph.proofs.Keyed.{rows_stay, still_live}
use Rattle.pricing_graph.proofs.RootNode.{graph_stays}
use Rattle.graph_walk.proofs.RowFacts.{states_length}
use Rattle.law_lemmas.proofs.EachOne.{each_weaker}
use Rattle.law_lemmas.proofs.Lists.{got_within}
use Rattle.pricing_graph.proofs.graph.Graph.runs.Goals as goal

pub best_steps-requires-clause-root : goal.best_steps-requires-clause-root
best_steps-requires-clause-root c =
    let nodes = rows_of (state c.root.new.steps) c.args.self.now.rows.entries in
    let is = c.in_ok-root.ensures.node in
    subst (λ n. c.in_ok-root.root < n) (states_length nodes) (got_within (states nodes) c.in_ok-root.root is.0 is.1)

pub best_steps-requires-clause-ready : goal.best_steps-requires-clause-ready
best_steps-requires-clause-ready c =
    let old = c.args.steps.now in
    let new = c.root.new.steps in
    let kept = c.in_ok-root.ensures in
    let es = c.args.self.now.rows.entries in
    record {
      request = subst IsRequest (sym kept.case.request) c.requires.request;
      alive = still_live (live old) (live new) (state old) (state new) es kept.keeps c.requires.live;
      graph =
          graph_stays old.case.book.now new.case.book.now old.case.request.now new.case.request.now (rows_of (state old) es) (rows_of (state new) es) kept.case.book kept.case.request
          (rows_stay (live old) (live new) (state old) (state new) es kept.keeps c.requires.live) c.requires.graph;
    }

pub best_steps-requires-clause-laws : goal.best_steps-requires-clause-laws
best_steps-requires-clause-laws c =
    let old = c.args.steps.now in
    let new = c.root.new.steps in
    let kept = c.in_ok-root.ensures in
    let es = c.args.self.now.rows.entries in
    let b = new.case.book.now in
    let q = new.case.request.now in
    let nodes = rows_of (state new) es in
    let limits : InLimits b = subst InLimits c.case.ensures.book c.book_limits.ensures in
    let request : IsRequest q = subst IsRequest (sym kept.case.request) c.requires.request in
    c.node_steps_hold.ensures.laws b q limits request nodes
    (graph_stays old.case.book.now b old.case.request.now q (rows_of (state old) es) nodes kept.case.book kept.case.request (rows_stay (live old) (live new) (state old) (state new) es kept.keeps c.requires.live) c.requires.graph)

pub runs_of_words-requires : goal.runs_of_words-requires
runs_of_words-requires c =
    let old = c.args.steps.now in
    let new = c.root.new.steps in
    let kept = c.in_ok-root.ensures in
    let es = c.args.self.now.rows.entries in
    let b = new.case.book.now in
    let q = new.case.request.now in
    let nodes = rows_of (state new) es in
    let limits : InLimits b = subst InLimits c.case.ensures.book c.book_limits.ensures in
    let request : IsRequest q = subst IsRequest (sym kept.case.request) c.requires.request in
    let graph : IsGraph b q nodes =
    graph_stays old.case.book.now b old.case.request.now q (rows_of (state old) es) nodes kept.case.book kept.case.request (rows_stay (live old) (live new) (state old) (state new) es kept.keeps c.requires.live) c.requires.graph in
    subst (λ ds. Each HasMoves ds) (sym c.as_slice.ensures)
    (each_weaker (IsRun (HasNodeStep b q nodes) c.in_ok-root.root) HasMoves (λ d h. c.node_steps_hold.ensures.moves b q limits request nodes c.in_ok-root.root d graph kept.node h) c.in_ok-found.found c.in_ok-found.ensures.least.each)

pub returns-clause-runs : goal.returns-clause-runs
returns-clause-runs c =
    let old = c.args.steps.now in
    let new = c.root.new.steps in
    let kept = c.in_ok-root.ensures in
    let es = c.args.self.now.rows.entries in
    let b = new.case.book.now in
    let q = new.case.request.now in
    let nodes = rows_of (state new) es in
    let limits : InLimits b = subst InLimits c.case.ensures.book c.book_limits.ensures in
    let request : IsRequest q = subst IsRequest (sym kept.case.request) c.requires.request in
    let graph : IsGraph b q nodes =
    graph_stays old.case.book.now b old.case.request.now q (rows_of (state old) es) nodes kept.case.book kept.case.request (rows_stay (live old) (live new) (state old) (state new) es kept.keeps c.requires.live) c.requires.graph in
    IfOk-weaker c.runs_of_words.result (Matched IsReadAs c.as_slice.result.now) (λ runs. BestRuns old.case.book.now old.case.request.now c.args.k (map run_of_drawn runs))
    (λ runs read.
    subst (λ z. BestRuns z old.case.request.now c.args.k (map run_of_drawn runs)) kept.case.book
    (subst (λ z. BestRuns b z c.args.k (map run_of_drawn runs)) kept.case.request
    (c.node_steps_hold.ensures.best b q limits request nodes c.in_ok-root.root c.args.k c.in_ok-found.found runs graph kept.node c.in_ok-found.ensures.least (subst (λ ds. Matched IsReadAs ds runs) c.as_slice.ensures read)))) c.runs_of_words.ensures
