use Rattle.std.proofs.Common.{◌+◌, ap, map, subst, sym, ◌∙◌}
use Rattle.cheap_moves.specs.Tails.{AreTailsOver}
use Rattle.residual_keys.specs.Residuals.{State}
use Rattle.search_steps.specs.LeastMoves.{AreLeastMoves, HasBound, least_of}
use Rattle.search_steps.proofs.Counting.{least_moves_as}
use Rattle.search_steps.proofs.NetworkFacts.{tails_there}
use Rattle.law_lemmas.proofs.Options.{if_ok}
use Rattle.search_steps.proofs.nearest.least_over.Goals as goal

pub least_moves-requires-clause-tails : goal.least_moves-requires-clause-tails
least_moves-requires-clause-tails g c =
    let b = c.args.search.now.book.now in
    let q = c.args.search.now.request.now in
    let at = c.residual.inside.at in
    let network = c.find_tails.new.self in
    let there = tails_there b q network (at.slice + 1) c.in_ok-place.place c.index.result.now c.in_ok-place.ensures.network c.in_ok-place.ensures.tails c.index.ensures in
    let over = subst (AreTailsOver b q.slices (at.slice + 1)) (sym c.as_slice.ensures) there in
    subst (λ (x : State). AreTailsOver b q.slices (x.at.slice + 1) c.as_slice.result.now) c.residual.view_is over

pub returns-clause-least : goal.returns-clause-least
returns-clause-least g c =
    let b = c.args.search.now.book.now in
    let q = c.args.search.now.request.now in
    let x = c.args.search.now.residual.now in
    let bound = g.B.ResidualBounds.bound c.args.search.now.bounds.now in
    if_ok c.least_of_each.result _ _
    (λ ms same. subst (AreLeastMoves b q (HasBound bound) x c.args.wanted) (sym (same ∙ ap (map least_of) c.as_slice-2.ensures)) (least_moves_as b q x bound c.args.wanted c.in_ok-found.found c.in_ok-found.ensures.least)) c.least_of_each.ensures
