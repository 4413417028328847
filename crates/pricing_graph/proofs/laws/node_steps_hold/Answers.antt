use Rattle.std.proofs.Common.{subst}
use Rattle.best_steps.specs.Runs.{StepLaws}
use Rattle.fare_law.specs.declared.requests.Request.{Request}
use Rattle.fare_law.specs.Book.{Book}
use Rattle.fare_law.specs.Limits.{IsRequest}
use Rattle.graph_walk.specs.Walks.{states}
use Rattle.residual_keys.specs.ResidualOrder.{StateBefore}
use Rattle.residual_keys.specs.Written.{InLimits}
use Rattle.pricing_graph.specs.NodeSteps.{BoundIn, HasNodeStep, level_at}
use Rattle.pricing_graph.proofs.KnownGraph.{MoveLaws, all_different, known_graph, moves_lawful}
use Rattle.pricing_graph.proofs.NodeLaws.{step_laws}
use Rattle.pricing_graph.proofs.RunsRead.{best_of_least, has_moves, total_small}
use Rattle.graph_walk.proofs.RowFacts.{states_length}
use Rattle.pricing_graph.proofs.laws.node_steps_hold.Goals as goal

-- the laws of moves, from those that are called
lawful : (c : goal.After-runs_are_short) (b : Book) (q : Request) → InLimits b → IsRequest q → MoveLaws b q
lawful c b q limits request =
    moves_lawful b q limits request c.limits_are_met.ensures.charged c.limits_are_met.ensures.surcharged (c.reached_states_are_reached.ensures.short b q) (c.runs_are_short.ensures.fits b q) (c.one_next.ensures.one b q) c.codes_tell.ensures.apart
    c.codes_tell.ensures.parts c.residual_order.ensures.order

pub returns-clause-laws : goal.returns-clause-laws
returns-clause-laws c b q limits request nodes graph =
    subst (λ n. StepLaws (HasNodeStep b q nodes) n (level_at (states nodes))) (states_length nodes) (step_laws b q (states nodes) (BoundIn nodes) (known_graph b q (lawful c b q limits request) nodes graph))

pub returns-clause-once : goal.returns-clause-once
returns-clause-once c b q limits request nodes graph = all_different StateBefore c.residual_order.ensures.order.trans c.residual_order.ensures.order.never (states nodes) graph.needed.in_order

pub returns-clause-small : goal.returns-clause-small
returns-clause-small c b q limits request nodes x m graph counts =
    let laws = lawful c b q limits request in
    total_small b q nodes x m laws.six laws.low (c.runs_are_short.ensures.runs b q) (known_graph b q laws nodes graph) counts

pub returns-clause-moves : goal.returns-clause-moves
returns-clause-moves c b q limits request nodes root d graph is run =
    let laws = lawful c b q limits request in
    has_moves b q nodes root (known_graph b q laws nodes graph) is (c.reached_is_written.ensures.codes b q limits laws.six) c.codes_tell.ensures.same d run

pub returns-clause-best : goal.returns-clause-best
returns-clause-best c b q limits request nodes root k ds runs graph is least read =
    let laws = lawful c b q limits request in
    best_of_least b q nodes root (known_graph b q laws nodes graph) is (c.reached_is_written.ensures.codes b q limits laws.six) c.codes_tell.ensures.same k ds runs least read
