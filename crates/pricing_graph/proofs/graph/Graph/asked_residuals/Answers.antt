use Rattle.std.proofs.Common.{◌≡◌, ◌-◌, ◌∙◌, ℕ, sym, arith}
use Rattle.asked_keys.specs.Asking.{IsAsked}
use Rattle.graph_walk.specs.Steps.{rows_of}
use Rattle.graph_walk.proofs.RowFacts.{rows_length}
use Rattle.search_steps.specs.Keys.{state}
use Rattle.pricing_graph.proofs.AskedNodes.{all_hold, none_behind, one_more}
use Rattle.pricing_graph.proofs.graph.Graph.asked_residuals.Goals as goal

pub loop-left-init : goal.loop-left-init
loop-left-init c =
    let at = state c.args.steps.now in
    let es = c.args.self.now.rows.entries in
    record {
      few = omega (arith, c.size-left.ensures);
      asked = none_behind (IsAsked c.new-asked.result) (rows_of at es) c.size-left.result (c.size-left.ensures ∙ sym (rows_length at es));
    }

pub loop-left-preserved : goal.loop-left-preserved
loop-left-preserved c =
    let nodes = rows_of (state c.args.steps.now) c.args.self.now.rows.entries in
    let before = c.loop-left.invariant in
    let added = c.in_ok-add_asked.ensures in
    record {
      few = let few = before.few in omega (arith, few);
      asked =
          one_more (IsAsked c.add_asked.new.asked) nodes (c.loop-left.left - 1) c.residual.result
          (λ m x le is. let other = before.asked m x (omega (arith, le, c.loop-left-test.true)) is in (other.0, added.stays other.0 other.1, other.2)) c.residual.ensures added.asked;
    }

pub returns : goal.returns
returns c =
    let none : ◌≡◌ {A = ℕ} c.loop-left.left 0 = omega (arith, c.loop-left-test.false) in
    all_hold (IsAsked c.loop-left.asked) (rows_of (state c.args.steps.now) c.args.self.now.rows.entries) c.loop-left.left none c.loop-left.invariant.asked
