use Rattle.std.proofs.Common.{ap, subst, sym, vec_items, ◌∙◌}
use Rattle.component_table.specs.Begun.{AreHeadsOf, LandedPaths}
use Rattle.component_table.specs.Tables.{HasThose}
use Rattle.component_table.proofs.HeadsAdded.{are_heads, heads_cross, heads_landed}
use Rattle.flight_paths.specs.Heads.{AreHeads}
use Rattle.law_lemmas.proofs.Options.{on_ok}
use Rattle.component_table.proofs.begun.Begun.add.Goals as goal

pub add_heads-requires-clause-paths : goal.add_heads-requires-clause-paths
add_heads-requires-clause-paths c = subst (AreHeadsOf c.args.origin.now) (sym c.as_slice.ensures) (are_heads c.args.origin.now c.in_ok-paths.paths c.in_ok-paths.ensures)

pub returns-clause-begun : goal.returns-clause-begun
returns-clause-begun c =
    let o = c.args.origin.now in
    let b = o.case.now.book.now in
    let q = o.case.now.request.now in
    let at = o.at.now in
    let ps = c.as_slice.result.now in
    let one = c.add_heads in
    let two = c.add_landed in
    let same = c.as_slice-2.ensures ∙ sym c.as_slice.ensures in
    let are = subst (AreHeads b q.slices at) (sym c.as_slice.ensures) c.in_ok-paths.ensures in
    let ls = one.new.self.landings.items in
    let old = c.args.self.now.heads.items in
    let new = one.new.self.heads.items in
    let h = c.in_ok-add_heads.ensures.heads in
    let rules = one.ensures.known.fares.rules in
    let known = two.new.known.outlines.of.items in
    let found = two.new.self.found.items in
    on_ok two.result _ _ (λ has. record {
      found = heads_landed o c.requires.origin one.new.known.fares rules c.limits.ensures ps are ls old new h known found (subst (λ xs. HasThose b q at (LandedPaths xs ls) known found) same has);
      more = h.more;
      heads = ap vec_items two.ensures.heads ∙ h.joined;
      crossing = heads_cross o c.requires.origin one.new.known.fares rules c.limits.ensures ps are ls old new h;
    }) two.ensures.found
