use Rattle.std.proofs.Common.{◌≡◌, ◌∙◌, ◌+◌, ◌<◌, ◌++◌, ◌∷◌, [], None, length, slice_index, sym, ap, subst, arith}
use Rattle.std.specs.Map.{lookup}
use Rattle.graph_walk.specs.Rows.{AreChained, IsTable, mark_of, marks_of, spot_of, spots_of}
use Rattle.graph_walk.proofs.Chains.{at_end, before_it, longer_table}
use Rattle.graph_walk.proofs.Marked.{marks_longer}
use Rattle.graph_walk.proofs.table.Rows.push.Goals as goal

pub invariant_of-self-2 : goal.invariant_of-self-2
invariant_of-self-2 g c =
    let eq = g.K.PartialEq.eq in
    let laws = g.met.K.Eq.laws in
    let number = g.N.Spread.number in
    let t = c.self.invariant.0 in
    let rows = c.self.inside.entries.items in
    let links = c.self.inside.links.items in
    let heads = c.self.inside.heads.items in
    let key = c.args.key in
    let bound = c.args.bound in
    let same : rows ≡ c.args.self.now.entries = ap (λ t. t.entries) c.self.view_is in
    let new : lookup (eq key) rows ≡ None = ap (lookup (eq key)) same ∙ c.requires.new in
    let count = ap length same in
    let few : length rows < 4294967295 = omega (arith, c.requires.few, count) in
    let rows' = rows ++ (key, bound) ∷ [] in
    let links_are : c.push_reserved.new.self.items ≡ links ++ 0 ∷ [] = c.push_reserved.ensures.items ∙ ap (λ ls. ls ++ 0 ∷ []) c.in_ok-reserve.ensures.items in
    let rows_are : c.push_reserved-3.new.self.items ≡ rows' = c.push_reserved-3.ensures.items ∙ ap (λ rs. rs ++ (key, bound) ∷ []) c.in_ok-reserve-3.ensures.items in
    let reserved = ap length c.in_ok-reserve-3.ensures.items in
    let place : c.len-place.result ≡ length rows = omega (arith, c.len-place.ensures, c.reserve-3.new.self.ok, reserved) in
    let long : c.len.result ≡ length heads = omega (arith, c.len.ensures, c.self.inside.heads.ok) in
    let spot : spot_of (length heads) (number key) ≡ c.spot_of-spot.result = ap (spot_of (length heads)) (sym c.number-number.ensures) ∙ ap (λ m. spot_of m c.number-number.result) (sym long) ∙ sym c.spot_of-spot.ensures.value in
    let is : slice_index (spots_of number (length heads) rows') c.len-place.result ≡ c.spot_of-spot.result = ap (slice_index (spots_of number (length heads) rows')) place ∙ at_end eq laws number rows links heads key bound t new few ∙ spot in
    let before : AreChained (spots_of number (length heads) rows') c.len-place.result c.push_reserved.new.self.items heads =
    subst (λ n. AreChained (spots_of number (length heads) rows') n c.push_reserved.new.self.items heads) (sym place)
    (subst (λ ls. AreChained (spots_of number (length heads) rows') (length rows) ls heads) (sym links_are) (before_it eq laws number rows links heads key bound t new few)) in
    let more = c.link.ensures.chained (spots_of number (length heads) rows') is before in
    let marks_are : c.push_reserved-2.new.self.items ≡ marks_of number rows' = c.push_reserved-2.ensures.items ∙ ap (λ ms. ms ++ c.mark_of.result ∷ []) (c.in_ok-reserve-2.ensures.items ∙ c.self.invariant.1) ∙ ap (λ m. marks_of number rows ++ m ∷ []) (c.mark_of.ensures ∙ ap mark_of c.number-number.ensures) ∙ sym (marks_longer number rows (key, bound)) in (
      subst (λ rs. IsTable eq number rs c.link.new.links.items c.link.new.heads.items) (sym rows_are)
          (longer_table eq laws number rows links heads key bound t new few c.link.new.links.items c.link.new.heads.items (c.link.ensures.links ∙ ap length links_are) c.link.ensures.heads
          (subst (λ n. AreChained (spots_of number (length heads) rows') (n + 1) c.link.new.links.items c.link.new.heads.items) place more)),
      marks_are ∙ sym (ap (marks_of number) rows_are),
    )
