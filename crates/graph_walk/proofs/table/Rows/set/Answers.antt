use Rattle.std.proofs.Common.{◌≡◌, ◌∙◌, ap, sym, subst}
use Rattle.indexmap.specs.IndexMap.{insert_entry}
use Rattle.graph_walk.specs.Rows.{IsAt}
use Rattle.graph_walk.proofs.Chains.{keys_set, same_keys, set_is}
use Rattle.graph_walk.proofs.Marked.{same_marks}
use Rattle.graph_walk.proofs.table.Rows.set.Goals as goal

pub invariant_of-self : goal.invariant_of-self
invariant_of-self g c =
    let rows = c.self.inside.entries.items in
    let keys = keys_set rows c.args.place c.index.result.now c.args.bound c.index.ensures in
    (same_keys g.K.PartialEq.eq g.N.Spread.number rows _ c.self.inside.links.items c.self.inside.heads.items keys c.self.invariant.0, c.self.invariant.1 ∙ sym (same_marks g.N.Spread.number rows _ keys))

pub returns : goal.returns
returns g c =
    let eq = g.K.PartialEq.eq in
    let rows = c.self.inside.entries.items in
    let same : rows ≡ c.args.self.now.entries = ap (λ t. t.entries) c.self.view_is in
    λ key at. set_is eq g.met.K.Eq.laws key c.args.bound rows c.args.place c.index.result.now c.index.ensures c.self.invariant.0.distinct (subst (λ rs. IsAt eq key rs c.args.place) (sym same) at)
    ∙ ap (λ rs. insert_entry eq rs key c.args.bound) same
