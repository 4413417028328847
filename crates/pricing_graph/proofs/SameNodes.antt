-- Steps that keep their case may be asked again where they might be before.
use Rattle.std.proofs.Common.{◌≡◌, sym, subst}
use Rattle.fare_law.specs.Limits.{IsRequest}
use Rattle.graph_walk.specs.Steps.{AreLive, rows_of}
use Rattle.pricing_graph.specs.declared.giving.NodeSteps.{NodeSteps}
use Rattle.pricing_graph.specs.Givers.{IsReady}
use Rattle.pricing_graph.specs.Graphs.{IsGraph}
use Rattle.residual_table.specs.Keys.{IsLive, residual_at}
use Rattle.search_steps.specs.Numbers.{Numbered}

pub still_ready : (s t : NodeSteps) → t.steps.now.case ≡ s.steps.now.case → t.graph.now.rows.entries ≡ s.graph.now.rows.entries → IsReady s → IsReady t
still_ready s t same rows r = record {
  request = subst (λ (k : Numbered). IsRequest k.request.now) (sym same) r.request;
  alive = subst (λ es. AreLive (IsLive t.steps.now.case.numbers) es) (sym rows) (subst (λ (k : Numbered). AreLive (IsLive k.numbers) s.graph.now.rows.entries) (sym same) r.alive);
  graph =
      subst (λ es. IsGraph t.steps.now.case.book.now t.steps.now.case.request.now (rows_of (residual_at t.steps.now.case.numbers) es)) (sym rows)
      (subst (λ (k : Numbered). IsGraph k.book.now k.request.now (rows_of (residual_at k.numbers) s.graph.now.rows.entries)) (sym same) r.graph);
}
