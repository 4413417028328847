use Rattle.std.proofs.Common.{◌≡◌, ◌∙◌, ◌+◌, length, slice_index, sym, ap, subst, arith}
use Rattle.std.proofs.lemmas.List.{length-set}
use Rattle.graph_walk.specs.Rows.{AreChained, mark_of, marks_of, spot_of, spots_of}
use Rattle.graph_walk.proofs.Chains.{key_at, row_spot}
use Rattle.graph_walk.proofs.Marked.{mark_at, marks_next, marks_whole}
use Rattle.graph_walk.proofs.table.chain.Goals as goal

pub loop-place-preserved : goal.loop-place-preserved
loop-place-preserved g c =
    let rows = c.args.rows.now in
    let place = c.loop-place.place in
    let number = g.N.Spread.number in
    let n = length c.loop-place.heads.items in
    let inside = c.loop-place-test.true in
    let same = c.link.ensures.heads in
    let long : c.len.result ≡ n = omega (arith, c.len.ensures, c.loop-place.heads.ok) in
    let row = c.index-rows-place.result in
    let is : slice_index (spots_of number n rows) place ≡ c.spot_of-spot.result =
    row_spot number n rows place row inside c.index-rows-place.is ∙ ap (λ r. spot_of n (number r.0)) c.index-rows-place.is ∙ ap (spot_of n) (sym c.number-number.ensures) ∙ ap (λ m. spot_of m c.number-number.result) (sym long) ∙ sym c.spot_of-spot.ensures.value in
    let marks = c.loop-place.marks.items in
    let each = c.loop-place.invariant.each in
    let mark : c.mark_of.result ≡ slice_index (marks_of number rows) place =
    c.mark_of.ensures ∙ ap mark_of c.number-number.ensures ∙ ap (λ r. mark_of (number r.0)) (sym c.index-rows-place.is) ∙ ap (λ k. mark_of (number k)) (sym (key_at rows place row row.0 inside c.index-rows-place.is)) ∙ sym (mark_at number rows place row.0 inside) in
    let more = c.link.ensures.chained (spots_of number n rows) is c.loop-place.invariant.chained in record {
      each = length-set marks place c.mark_of.result ∙ each;
      marked = marks_next number rows marks place c.mark_of.result (omega (arith, inside, each)) mark c.loop-place.invariant.marked;
      links = c.link.ensures.links ∙ c.loop-place.invariant.links;
      heads = same ∙ c.loop-place.invariant.heads;
      chained = subst (λ m. AreChained (spots_of number m rows) (place + 1) c.link.new.links.items c.link.new.heads.items) (sym same) more;
    }

pub returns-clause-marks : goal.returns-clause-marks
returns-clause-marks g c = marks_whole g.N.Spread.number c.args.rows.now c.loop-place.marks.items c.loop-place.place c.loop-place.invariant.each c.loop-place-test.false c.loop-place.invariant.marked
