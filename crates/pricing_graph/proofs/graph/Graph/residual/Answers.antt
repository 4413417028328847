use Rattle.std.proofs.Common.{◌∙◌, Some, sym, ap}
use Rattle.search_steps.specs.Keys.{state}
use Rattle.pricing_graph.proofs.Reordered.{node_at}
use Rattle.pricing_graph.proofs.graph.Graph.residual.Goals as goal

pub returns : goal.returns
returns c = node_at (state c.args.steps.now) c.args.self.now.rows.entries c.args.node c.key.result c.key.ensures ∙ ap Some (sym c.residual.ensures)
