use Rattle.std.proofs.Common.{◌≡◌, ◌∙◌, suc, ◌<◌, ◌-◌, length, slice_index, slice_index_or, sym, ap, subst, arith}
use Rattle.std.specs.Map.{keys_of}
use Rattle.std.proofs.lemmas.Grind.{get_or_default_zero}
use Rattle.graph_walk.specs.Rows.{IsLast, spot_of, spots_of}
use Rattle.graph_walk.proofs.Chains.{first_end, next_end}
use Rattle.graph_walk.proofs.table.Rows.place_of.Goals as goal

pub loop-end-init : goal.loop-end-init
loop-end-init g c =
    let t = c.self.invariant.0 in
    let rows = c.self.inside.entries.items in
    let heads = c.self.inside.heads.items in
    let n = length heads in
    let number = g.N.Spread.number in
    let key = c.args.key.now in
    let long : c.len.result ≡ n = omega (arith, c.len.ensures, c.self.inside.heads.ok) in
    let spot : c.spot_of.result ≡ spot_of n (number key) = c.spot_of.ensures.value ∙ ap (λ m. spot_of m c.number-number.result) long ∙ ap (spot_of n) c.number-number.ensures in
    let inside : c.spot_of.result < n = omega (arith, c.spot_of.ensures.within, long) in
    let end : slice_index heads c.spot_of.result ≡ c.index-end.result.now = sym (c.index-end.ensures ∙ get_or_default_zero heads c.spot_of.result c.index-end.result.now inside) in
    let last = subst (λ s. IsLast (spots_of number n rows) (length rows) s c.index-end.result.now) spot (subst (IsLast (spots_of number n rows) (length rows) c.spot_of.result) end (t.chained.headed c.spot_of.result inside)) in
    let first = first_end g.K.PartialEq.eq number g.met.N.Spread.respects_eq n key rows c.index-end.result.now last in record {
      within = first.0;
      has = first.1.0;
      none = first.1.1;
    }

pub loop-end-preserved : goal.loop-end-preserved
loop-end-preserved g c =
    let t = c.self.invariant.0 in
    let rows = c.self.inside.entries.items in
    let links = c.self.inside.links.items in
    let n = length c.self.inside.heads.items in
    let number = g.N.Spread.number in
    let key = c.args.key.now in
    let some = c.loop-end-test.true in
    let place = c.loop-end.end - 1 in
    let is : c.loop-end.end ≡ suc place = omega (arith, some) in
    let within = c.loop-end.invariant.within in
    let inside : place < length rows = omega (arith, is, within) in
    let linked : place < length links = let m = t.as_many in omega (arith, inside, m) in
    let end : slice_index links place ≡ c.index-end-in-loop-end.result.now = sym (c.index-end-in-loop-end.ensures ∙ get_or_default_zero links place c.index-end-in-loop-end.result.now linked) in
    let last = subst (IsLast (spots_of number n rows) place (slice_index (spots_of number n rows) place)) end (t.chained.linked place inside) in
    let same : rows ≡ c.args.self.now.entries = ap (λ t. t.entries) c.self.view_is in
    let differs = ap (λ rs. g.K.PartialEq.eq key (slice_index_or (keys_of rs) place key)) same ∙ sym c.has_key.ensures ∙ c.if-has_key.false in
    let next = next_end g.K.PartialEq.eq number g.met.N.Spread.respects_eq n key rows c.loop-end.end place c.index-end-in-loop-end.result.now is within c.loop-end.invariant.has c.loop-end.invariant.none differs last in record {
      within = next.0;
      has = next.1.0;
      none = next.1.1;
    }
