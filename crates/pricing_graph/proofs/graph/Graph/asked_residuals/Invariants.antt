use Rattle.std.proofs.Common.{◌≤◌, length}
use Rattle.asked_keys.specs.Asking.{IsAsked}
use Rattle.graph_walk.specs.Steps.{rows_of}
use Rattle.search_steps.specs.Keys.{state}
use Rattle.pricing_graph.proofs.AskedNodes.{HoldFrom}
use Rattle.pricing_graph.proofs.graph.Graph.asked_residuals.Given as goal

abbrev pub invariant-loop-left : goal.invariant-loop-left
invariant-loop-left l = record {
  few : l.left ≤ length l.self.rows.entries;
  asked : HoldFrom (IsAsked l.asked) (rows_of (state l.steps) l.self.rows.entries) l.left;
}

abbrev pub decreases-loop-left : goal.decreases-loop-left
decreases-loop-left l = l.left
