use Rattle.std.proofs.Common.{◌≡◌, ◌∙◌, ◌<◌, ◌^◌, map, option_and_then, position, refl, sym, ap, subst, arith}
use Rattle.std.specs.Map.{keys_of, lookup}
use Rattle.std.proofs.lemmas.Result.{IfOk-weaker}
use Rattle.best_steps.specs.Runs.{Sooner}
use Rattle.fare_law.specs.Lists.{Each, KLeast}
use Rattle.residual_keys.specs.Written.{InLimits}
use Rattle.residual_table.specs.contracts.key.ResidualKeyPartialEq.TheImpl as key
use Rattle.residual_table.specs.declared.key.ResidualKey.{ResidualKey}
use Rattle.search_steps.specs.declared.least.LeastMove.{LeastMove}
use Rattle.search_steps.specs.Keys.{live, state}
use Rattle.search_steps.specs.LeastMoves.{BoundBy, Counts}
use Rattle.pricing_graph.specs.Givers.{nodes_of, step_as}
use Rattle.pricing_graph.specs.NodeSteps.{HasNodeStep}
use Rattle.pricing_graph.proofs.Answered.{counts_in, least_steps, totals_small}
use Rattle.pricing_graph.proofs.Keyed.{state_at}
use Rattle.pricing_graph.proofs.SameNodes.{still_ready}
use Rattle.graph_walk.proofs.RowFacts.{rows_length}
use Rattle.pricing_graph.proofs.giving.NodeStepsSteps.first_steps.Goals as goal

pub overflow_cast-node : goal.overflow_cast-node
overflow_cast-node c =
    let es = c.args.self.now.graph.now.rows.entries in
    let within = c.requires.node in
    let small = c.args.self.now.graph.now.small in
    omega (arith, within, small, rows_length (state c.args.self.now.steps.now) es)

pub key-key-requires : goal.key-key-requires
key-key-requires c =
    let within = c.requires.node in
    omega (arith, within, rows_length (state c.args.self.now.steps.now) c.args.self.now.graph.now.rows.entries)

pub steps_of-requires : goal.steps_of-requires
steps_of-requires c =
    let old = c.args.self.now.steps.now in
    let b = old.case.book.now in
    let q = old.case.request.now in
    let es = c.args.self.now.graph.now.rows.entries in
    let nodes = nodes_of c.args.self.now in
    let x = state old c.key-key.result in
    let limits : InLimits b = subst InLimits c.case.ensures.book c.book_limits.ensures in
    let graph = c.requires.ready.graph in
    let request = c.requires.ready.request in
    let different = c.node_steps_hold.ensures.once b q limits request nodes graph in
    subst (λ ms. Each (λ (m : LeastMove ResidualKey). m.total < 2 ^ 64) ms) (sym c.as_slice.ensures)
    (totals_small (state c.least_moves.new.self) (Counts b q (BoundBy (live old) (state old) (λ k. option_and_then (λ bound. bound) (lookup (key.ghosts.eq k) es))) x)
    (λ m h. c.node_steps_hold.ensures.small b q limits request nodes x m graph (counts_in b q (live old) (state old) key.ghosts.eq es c.requires.ready.alive c.keys_tell.ensures different x m h)) c.in_ok-least.least c.in_ok-least.ensures.least.each)

pub returns-clause-least : goal.returns-clause-least
returns-clause-least c =
    let old = c.args.self.now.steps.now in
    let new = c.least_moves.new.self in
    let b = old.case.book.now in
    let q = old.case.request.now in
    let es = c.args.self.now.graph.now.rows.entries in
    let nodes = nodes_of c.args.self.now in
    let limits : InLimits b = subst InLimits c.case.ensures.book c.book_limits.ensures in
    let different = c.node_steps_hold.ensures.once b q limits c.requires.ready.request nodes c.requires.ready.graph in
    let node = λ (k : ResidualKey). position (key.ghosts.eq k) (keys_of c.args.self.now.graph.now.rows.entries) in
    let least =
    least_steps b q (live old) (state old) key.ghosts.eq es c.requires.ready.alive c.keys_tell.ensures different c.args.node (state old c.key-key.result) (state_at (state old) es c.args.node c.key-key.result c.key-key.ensures) (live new) (state new)
    c.in_ok-least.ensures.keeps c.keys_tell-2.ensures c.args.wanted c.in_ok-least.least c.in_ok-least.ensures.live c.in_ok-least.ensures.least in
    IfOk-weaker c.steps_of.result (λ steps. steps ≡ map (step_as node) c.as_slice.result.now) (λ steps. KLeast (HasNodeStep b q nodes c.args.node) Sooner c.args.wanted steps)
    (λ steps e. subst (λ steps. KLeast (HasNodeStep b q nodes c.args.node) Sooner c.args.wanted steps) (sym (e ∙ ap (λ ms. map (step_as node) ms) c.as_slice.ensures)) least) c.steps_of.ensures

pub returns-in_err-least-clause-later : goal.returns-in_err-least-clause-later
returns-in_err-least-clause-later c =
    let kept = c.least_moves.ensures in
    record { ready = λ r. still_ready _ _ kept.same refl r; case = kept.case; keeps = kept.keeps; same_steps = refl }

pub returns-clause-later : goal.returns-clause-later
returns-clause-later c =
    let kept = c.least_moves.ensures in
    record { ready = λ r. still_ready _ _ kept.same refl r; case = kept.case; keeps = kept.keeps; same_steps = refl }
