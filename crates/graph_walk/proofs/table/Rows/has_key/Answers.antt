use Rattle.std.proofs.Common.{◌≡◌, ◌∙◌, ◌<◌, length, nat_eq, slice_index, slice_index_or, sym, ap, subst, arith}
use Rattle.std.specs.Map.{keys_of}
use Rattle.std.proofs.lemmas.Grind.{get_or_default_zero}
use Rattle.graph_walk.specs.Rows.{mark_of, marks_of}
use Rattle.graph_walk.proofs.Marked.{mark_at, marks_length, told_apart}
use Rattle.graph_walk.proofs.table.Rows.has_key.Goals as goal

pub returns-else-index-mark : goal.returns-else-index-mark
returns-else-index-mark g c =
    let eq = g.K.PartialEq.eq in
    let number = g.N.Spread.number in
    let rows = c.self.inside.entries.items in
    let marks = c.self.inside.marks.items in
    let key = c.args.key.now in
    let place = c.args.place in
    let same : rows ≡ c.args.self.now.entries = ap (λ t. t.entries) c.self.view_is in
    let inside : place < length rows = subst (λ rs. place < length rs) (sym same) c.requires.within in
    let many = marks_length number rows in
    let long = ap length c.self.invariant.1 in
    let is : c.index.result.now ≡ mark_of (number (slice_index_or (keys_of rows) place key)) =
    c.index.ensures ∙ get_or_default_zero marks place c.index.result.now (omega (arith, inside, many, long)) ∙ ap (λ ms. slice_index ms place) c.self.invariant.1 ∙ mark_at number rows place key inside in
    subst (λ rs. nat_eq c.index.result.now c.args.mark ≡ eq key (slice_index_or (keys_of rs) place key)) same (told_apart eq number g.met.N.Spread.respects_eq key (slice_index_or (keys_of rows) place key) c.index.result.now c.args.mark is c.requires.mark c.if-index-mark.false)
