use Rattle.std.proofs.Common.{◌+◌, ℕ, sym, ap₂, subst, ◌∙◌}
use Rattle.cheap_moves.specs.Within.{IsWithin}
use Rattle.cheap_moves.proofs.FareMoves.{share_low}
use Rattle.law_lemmas.proofs.Tests.{true_false}
use Rattle.cheap_moves.proofs.fares.price_within.Goals as goal

pub sum-price-requires-clause-share : goal.sum-price-requires-clause-share
sum-price-requires-clause-share g c =
    let k = c.args.component.now in
    let is = c.requires.component in
    share_low c.args.search.now.book.now c.args.search.now.request.now c.args.search.now.residual.now.at k.flown.now.way.path k.flown.now.way.flights k.flown.now.way.legs k.flown.now.classes k.facts.reverse k.market.now.sheet.value k.market.now.groups is.over.over k.group.now is.within c.args.fare.now c.requires.fare

pub returns-then-is_within-clause-some : goal.returns-then-is_within-clause-some
returns-then-is_within-clause-some g c =
    let total = ap₂ (λ (m n : ℕ). m + n) (c.from.ensures ∙ c.sum-price.ensures) c.from-2.ensures in
    (c.sum-price.ensures, subst (IsWithin c.args.search.now.limit) total (c.is_within.ensures.0 c.if-is_within.true))

pub returns-else-is_within-clause-none : goal.returns-else-is_within-clause-none
returns-else-is_within-clause-none g c =
    let total = ap₂ (λ (m n : ℕ). m + n) (c.from.ensures ∙ c.sum-price.ensures) c.from-2.ensures in
    λ w. true_false (c.is_within.ensures.1 (subst (IsWithin c.args.search.now.limit) (sym total) w)) c.if-is_within.false
