use Rattle.std.proofs.Common.{◌≡◌, ◌∙◌, IsPermutation, ℕ, length, sym, ap, subst, arith}
use Rattle.std.specs.Map.{lookup}
use Rattle.std.specs.Vec.{vec_len}
use Rattle.std.proofs.lemmas.List.{length-replicate}
use Rattle.std.proofs.lemmas.List.Sorted.{length_permutation}
use Rattle.graph_walk.specs.Rows.{AreChained, marks_of, spots_of}
use Rattle.graph_walk.proofs.Chains.{looked_up_still, reordered_table}
use Rattle.graph_walk.proofs.Marked.{marks_length}
use Rattle.graph_walk.proofs.table.Rows.reorder.Goals as goal

pub chain-requires-clause-as_many : goal.chain-requires-clause-as_many
chain-requires-clause-as_many g c =
    let same = ap (λ t. length t.entries) c.self.view_is in
    let many = length_permutation c.args.self.now.entries c.args.entries.items c.requires in
    let here = ap length c.as_slice.ensures.value in
    let linked = c.self.invariant.0.as_many in
    omega (arith, same, many, here, linked)

pub chain-requires-clause-few : goal.chain-requires-clause-few
chain-requires-clause-few g c =
    let same = ap (λ t. length t.entries) c.self.view_is in
    let many = length_permutation c.args.self.now.entries c.args.entries.items c.requires in
    let here = ap length c.as_slice.ensures.value in
    let few = c.self.invariant.0.few in
    omega (arith, same, many, here, few)

pub chain-requires-clause-each : goal.chain-requires-clause-each
chain-requires-clause-each g c =
    let same = ap (λ t. length t.entries) c.self.view_is in
    let moved = length_permutation c.args.self.now.entries c.args.entries.items c.requires in
    let here = ap length c.as_slice.ensures.value in
    let many = ap length c.self.invariant.1 in
    let marked = marks_length g.N.Spread.number c.self.inside.entries.items in
    omega (arith, same, moved, here, many, marked)

pub invariant_of-self : goal.invariant_of-self
invariant_of-self g c =
    let rows = c.self.inside.entries.items in
    let new = c.args.entries.items in
    let same : rows ≡ c.args.self.now.entries = ap (λ t. t.entries) c.self.view_is in
    let moves : IsPermutation rows new = subst (λ rs. IsPermutation rs new) (sym same) c.requires in
    let zeros = c.fill.ensures.items (λ y e. e) in
    let long = ap length zeros in
    let filled = length-replicate {A = ℕ} (vec_len c.self.inside.heads) 0 in
    let spots : length c.fill.new.self.items ≡ length c.self.inside.heads.items = omega (arith, long, filled, c.self.inside.heads.ok) in
    let all = subst (λ rs. AreChained (spots_of g.N.Spread.number (length c.chain.new.heads.items) rs) (length rs) c.chain.new.links.items c.chain.new.heads.items) c.as_slice.ensures.value c.chain.ensures.all in
    (reordered_table g.K.PartialEq.eq g.met.K.Eq.laws g.N.Spread.number rows new c.self.inside.links.items c.self.inside.heads.items c.chain.new.links.items c.chain.new.heads.items c.self.invariant.0 moves c.chain.ensures.as_many (c.chain.ensures.spots ∙ spots) all, c.chain.ensures.marks ∙ ap (marks_of g.N.Spread.number) c.as_slice.ensures.value)

pub returns-clause-found : goal.returns-clause-found
returns-clause-found g c =
    let eq = g.K.PartialEq.eq in
    let rows = c.self.inside.entries.items in
    let new = c.args.entries.items in
    let same : rows ≡ c.args.self.now.entries = ap (λ t. t.entries) c.self.view_is in
    let moves : IsPermutation rows new = subst (λ rs. IsPermutation rs new) (sym same) c.requires in
    λ key. looked_up_still eq g.met.K.Eq.laws rows new c.self.invariant.0.distinct moves key ∙ ap (lookup (eq key)) same
