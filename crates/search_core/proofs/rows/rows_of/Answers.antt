use Rattle.std.proofs.Common.{◌∙◌, map, ap, sym, subst, arith}
use Rattle.certificate.specs.NumberedRows as Numbered
use Rattle.certificate.proofs.StandingRows.{one_live}
use Rattle.residual_table.specs.Keys.{IsLive}
use Rattle.search_core.specs.Answers.{node_of}
use Rattle.search_steps.specs.Keys.{live, state}
use Rattle.search_core.proofs.GraphRows.{live_at, numbered_next, rows_all, rows_are}
use Rattle.search_core.proofs.rows.rows_of.Goals as goal

pub loop-node-preserved : goal.loop-node-preserved
loop-node-preserved c =
    let t = c.args.steps.now.case.numbers in
    let entries = c.args.graph.now.rows.entries in
    let alive = live_at (live c.args.steps.now) entries c.loop-node.node c.key.result c.key.ensures c.requires in record {
      live = subst (Numbered.AreLive t) (sym c.in_ok-push.ensures.items) (one_live t c.loop-node.rows.items c.new.result c.loop-node.invariant.live (subst (IsLive t) (sym c.new.ensures.key) alive));
      nodes = numbered_next t entries c.loop-node.node c.loop-node.rows.items c.push.new.self.items c.new.result c.key.result c.bound.result c.loop-node.invariant.nodes c.key.ensures c.bound.ensures c.new.ensures.key c.new.ensures.bound c.in_ok-push.ensures.items;
    }

pub returns-clause-nodes : goal.returns-clause-nodes
returns-clause-nodes c =
    let rows = c.loop-node.rows.items in
    let numbers = ap (λ t. Numbered.rows_of t rows) (c.in_ok-copied.ensures ∙ c.numbers.ensures) in
    ap (map node_of) (c.of.ensures ∙ numbers) ∙ rows_all (state c.args.steps.now) c.args.graph.now.rows.entries c.loop-node.node (Numbered.rows_of c.args.steps.now.case.numbers rows) c.loop-node.invariant.nodes (let n = c.size-node-end.ensures in let t = c.loop-node-test.false in omega (arith, n, t))

pub returns-clause-rows : goal.returns-clause-rows
returns-clause-rows c = λ b q. rows_are b q _ _ (returns-clause-nodes c)
