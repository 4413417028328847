use Rattle.std.proofs.Common.{◌≡◌, ◌∙◌, Some, sym, ap, subst}
use Rattle.std.specs.Map.{lookup}
use Rattle.graph_walk.specs.Rows.{IsAt}
use Rattle.graph_walk.proofs.Chains.{looked_up, looked_nowhere}
use Rattle.graph_walk.proofs.table.Rows.get.Goals as goal

pub returns-in-Some : goal.returns-in-Some
returns-in-Some g c =
    let eq = g.K.PartialEq.eq in
    let key = c.args.key.now in
    let rows = c.self.inside.entries.items in
    let place = c.in-Some.place in
    let row = c.index.result.now in
    let same : rows ≡ c.args.self.now.entries = ap (λ t. t.entries) c.self.view_is in
    let at : IsAt eq key rows place = subst (λ rs. IsAt eq key rs place) (sym same) c.in-Some.ensures.found in
    ap (λ r. Some r.1) c.index.ensures ∙ sym (looked_up eq g.met.K.Eq.laws key rows place row c.self.invariant.0.distinct at) ∙ ap (lookup (eq key)) same

pub returns-in-None : goal.returns-in-None
returns-in-None g c = sym (looked_nowhere g.K.PartialEq.eq g.met.K.Eq.laws c.args.key.now c.args.self.now.entries c.in-None.ensures.absent)
