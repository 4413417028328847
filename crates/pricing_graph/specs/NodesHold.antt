-- What holds of the steps of a graph's nodes.
use Rattle.std.specs.Prelude.{ℕ, ◌<◌, ◌^◌, List, length, map, Option}
use Rattle.best_k.specs.declared.lattice.Derivation.{Derivation}
use Rattle.best_steps.specs.Runs.{IsRun, LeastRuns, StepLaws}
use Rattle.fare_law.specs.declared.requests.Request.{Request}
use Rattle.fare_law.specs.Book.{Book}
use Rattle.fare_law.specs.Lists.{AllDifferent, Matched}
use Rattle.graph_walk.specs.Walks.{states}
use Rattle.residual_keys.specs.Residuals.{State}
use Rattle.residual_keys.specs.Searches.{BestRuns}
use Rattle.search_steps.specs.declared.least.LeastMove.{LeastMove}
use Rattle.search_steps.specs.LeastMoves.{Counts}
use Rattle.pricing_graph.specs.declared.drawn.DrawnRun.{DrawnRun}
use Rattle.pricing_graph.specs.DrawnRuns.{HasMoves, IsReadAs, run_of_drawn}
use Rattle.pricing_graph.specs.Graphs.{IsGraph}
use Rattle.pricing_graph.specs.NodeSteps.{BoundIn, HasNodeStep, IsRootNode, level_at}

-- The steps keep to the laws of steps.
abbrev pub NodesKeepLaws : Book → Request → Type 0
NodesKeepLaws b q = (nodes : List (State × Option ℕ)) → IsGraph b q nodes → StepLaws (HasNodeStep b q nodes) (length nodes) (level_at (states nodes))

-- Each residual is at one node.
abbrev pub NodesDiffer : Book → Request → Type 0
NodesDiffer b q = (nodes : List (State × Option ℕ)) → IsGraph b q nodes → AllDifferent (states nodes)

-- The total of a move that counts is below 2^64.
abbrev pub TotalsAreSmall : Book → Request → Type 0
TotalsAreSmall b q = (nodes : List (State × Option ℕ)) (x : State) (m : LeastMove State) → IsGraph b q nodes → Counts b q (BoundIn nodes) x m → m.total < 2 ^ 64

-- The word of a run from the root's node is the code of moves.
abbrev pub RunsHaveMoves : Book → Request → Type 0
RunsHaveMoves b q = (nodes : List (State × Option ℕ)) (root : ℕ) (d : Derivation) → IsGraph b q nodes → IsRootNode b q nodes root → IsRun (HasNodeStep b q nodes) root d → HasMoves d

-- The least runs of steps from the root's node, read as moves, are the least runs from the root.
abbrev pub LeastRunsAreBest : Book → Request → Type 0
LeastRunsAreBest b q =
    (nodes : List (State × Option ℕ)) (root k : ℕ) (ds : List Derivation) (runs : List DrawnRun)
    → IsGraph b q nodes → IsRootNode b q nodes root → LeastRuns (HasNodeStep b q nodes) root k ds → Matched IsReadAs ds runs → BestRuns b q k (map run_of_drawn runs)
