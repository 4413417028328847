use Rattle.std.proofs.Common.{subst, sym}
use Rattle.std.specs.List.Sorted.{IsPermutation}
use Rattle.component_table.specs.Begun.{AreLandings}
use Rattle.component_table.proofs.HeadsAdded.{landings_sorted, sorted_found}
use Rattle.law_lemmas.proofs.Options.{on_ok}
use Rattle.component_table.proofs.begun.Begun.add_landed.Goals as goal

pub price_landings-requires-clause-landings : goal.price_landings-requires-clause-landings
price_landings-requires-clause-landings c =
    let o = c.args.origin.now in
    let sort = c.sort_unstable_by_key in
    subst (AreLandings o c.args.known.now.fares c.args.paths.now) (sym c.as_slice-landings.ensures.value)
    (landings_sorted o c.args.known.now.fares c.args.paths.now c.args.self.now.landings.items sort.new.self.items sort.ensures.permutation c.requires.landings)

pub returns-clause-found : goal.returns-clause-found
returns-clause-found c =
    let o = c.args.origin.now in
    let sort = c.sort_unstable_by_key in
    let old = c.args.self.now.landings.items in
    on_ok c.price_landings.result _ _ (λ a. sorted_found o.case.now.book.now o.case.now.request.now o.at.now c.args.paths.now old c.as_slice-landings.result.now c.price_landings.new.known.outlines.of.items c.args.self.now.found.items c.price_landings.new.found.items
    (subst (IsPermutation old) (sym c.as_slice-landings.ensures.value) sort.ensures.permutation) c.requires.none a) c.price_landings.ensures.found
