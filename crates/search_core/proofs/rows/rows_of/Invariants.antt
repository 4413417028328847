use Rattle.std.proofs.Common.{◌≡◌, map, take}
use Rattle.certificate.specs.NumberedRows as Numbered
use Rattle.graph_walk.specs.Steps.{rows_of}
use Rattle.search_core.specs.Answers.{node_of}
use Rattle.search_steps.specs.Keys.{state}
use Rattle.search_core.proofs.rows.rows_of.Given as goal

abbrev pub invariant-loop-node : goal.invariant-loop-node
invariant-loop-node l = record {
  live : Numbered.AreLive l.steps.case.numbers l.rows.items;
  nodes : map node_of (Numbered.rows_of l.steps.case.numbers l.rows.items) ≡ take l.node (rows_of (state l.steps) l.graph.rows.entries);
}
