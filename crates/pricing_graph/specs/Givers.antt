-- Givers of steps: a graph with the steps of its search.
use Rattle.std.specs.Prelude.{◌≡◌, ℕ, List, Option, option_and_then}
use Rattle.best_steps.specs.declared.steps.Step.{Step}
use Rattle.fare_law.specs.Codes.{move_code}
use Rattle.fare_law.specs.Limits.{IsRequest}
use Rattle.graph_walk.specs.Steps.{AreLive, KeepsStates, rows_of}
use Rattle.residual_keys.specs.Residuals.{State}
use Rattle.search_steps.specs.declared.least.LeastMove.{LeastMove}
use Rattle.search_steps.specs.Cases.{IsSameCase}
use Rattle.search_steps.specs.Keys.{live, state}
use Rattle.pricing_graph.specs.declared.giving.NodeSteps.{NodeSteps}
use Rattle.pricing_graph.specs.Graphs.{IsGraph}

-- the step of a move, where keys have these nodes
abbrev pub step_as : {K : Type 0} → (K → Option ℕ) → LeastMove K → Step
step_as node m = record { price = m.price; total = m.total; word = move_code m.mv; next = option_and_then node m.next }

-- the residuals of the nodes with their least prices, where keys stand for what the steps say
abbrev pub nodes_of : NodeSteps → List (State × Option ℕ)
nodes_of s = rows_of (state s.steps.now) s.graph.now.rows.entries

-- The nodes are the graph of the search.
pub record IsReady (s : NodeSteps) : Type 0 where
  pub request : IsRequest s.steps.now.case.request.now
  pub alive : AreLive (live s.steps.now) s.graph.now.rows.entries
  pub graph : IsGraph s.steps.now.case.book.now s.steps.now.case.request.now (nodes_of s)

-- What stays of a giver that was asked: it may be asked again, and live keys stay live and stand for the same.
pub record IsLater (s t : NodeSteps) : Type 0 where
  pub ready : IsReady s → IsReady t
  pub case : IsSameCase s.steps.now t.steps.now
  pub keeps : KeepsStates (live s.steps.now) (live t.steps.now) (state s.steps.now) (state t.steps.now)
  pub same_steps : t.steps.ghost_name ≡ s.steps.ghost_name
