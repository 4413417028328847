use Rattle.std.proofs.Common.{◌≡◌, ◌<◌, length, Some, slice_get, ap, subst, sym, ◌∙◌}
use Rattle.component_table.specs.Networks.{AreFareTailsOf}
use Rattle.component_table.proofs.NetworkFacts.{are_placed}
use Rattle.fare_ends.specs.Tails.{AreTailsFrom}
use Rattle.fare_law.specs.Lists.{Each}
use Rattle.flight_paths.specs.Heads.{chosen}
use Rattle.flight_paths.specs.Marks.{AreMarks}
use Rattle.law_lemmas.proofs.EachOne.{each_got}
use Rattle.law_lemmas.proofs.Lists.{got_read, got_within}
use Rattle.component_table.proofs.networks.Network.tails_at.Goals as goal

pub returns : goal.returns
returns c = record {
  tails = λ place slice f.
      let b = c.args.book.now in
      let q = c.args.request.now in
      let n = c.args.self.now in
      let xs = n.fare_tails.items in
      let at = c.args.at in
      let t = c.index-numbered.result.now in
      let s = c.index-slice.result.now in
      let there : slice_get xs at ≡ Some t = got_read xs at t (got_within xs at f.tails f.stands) ∙ ap Some (sym c.index-numbered.ensures) in
      let x = each_got (AreFareTailsOf b q n.tails.items) xs at t c.requires.network.fare_tails there in
      let among : slice_get n.tails.items t.among ≡ Some s = got_read n.tails.items t.among s (got_within n.tails.items t.among x.among x.stands) ∙ ap Some (sym c.index-slice.ensures) in
      let p = are_placed b q n c.requires.network place slice at f t s there among in
      record {
        within = subst (λ ps. Each (λ i. i < length ps) c.as_slice-3.result.now) (sym c.as_slice.ensures) (subst (Each (λ i. i < length s.paths)) (sym c.as_slice-3.ensures) p.within);
        are = subst (λ ps. AreTailsFrom b q place slice (chosen ps c.as_slice-3.result.now)) (sym c.as_slice.ensures) (subst (λ ns. AreTailsFrom b q place slice (chosen s.paths ns)) (sym c.as_slice-3.ensures) p.are);
        marks = subst (λ ps. AreMarks b.timetable.flights ps c.as_slice-2.result.now) (sym c.as_slice.ensures) (subst (AreMarks b.timetable.flights s.paths) (sym c.as_slice-2.ensures) p.marks);
      };
}
