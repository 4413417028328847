use Rattle.std.proofs.Common.{MatchOption, Some, ap, subst, sym, ◌∙◌}
use Rattle.cheap_moves.proofs.MarketMoves.{no_market}
use Rattle.cheap_moves.proofs.PathMoves.{market_over}
use Rattle.fare_ends.specs.Markets.{StandsAt}
use Rattle.fare_book.specs.Keeping.{NoFare}
use Rattle.residual_keys.specs.Steps.{MarketOver}
use Rattle.law_lemmas.proofs.Lists.{got_is}
use Rattle.cheap_moves.proofs.ways.add_way.Goals as goal

pub add_market-requires-clause-over : goal.add_market-requires-clause-over
add_market-requires-clause-over g c =
    let b = c.args.search.now.book.now in
    let q = c.args.search.now.request.now in
    let r = c.args.search.now.residual.now in
    let flown = c.args.flown.now in
    let ms = c.find.new.self.kept.items in
    let key = c.key_over-key.result in
    let found = subst (λ o. MatchOption o (NoFare b key.from key.to) (StandsAt ms key)) c.in-Some.is c.in_ok-at.ensures.found in
    let market = subst (λ gs. MarketOver c.args.reverse gs key.from key.to) c.as_slice.ensures.items c.key_over-key.ensures in
    let same = c.index.ensures ∙ got_is ms c.in-Some.at c.index.result.now found.market found.stands in
    market_over b q r flown c.args.reverse key ms c.in-Some.at c.index.result.now c.requires.flown market c.limits.ensures c.in_ok-at.ensures.kept found (found.stands ∙ ap Some (sym same))

pub returns-in-None-clause-moves : goal.returns-in-None-clause-moves
returns-in-None-clause-moves g c =
    let b = c.args.search.now.book.now in
    let key = c.key_over-key.result in
    let none = subst (λ o. MatchOption o (NoFare b key.from key.to) (StandsAt c.find.new.self.kept.items key)) c.in-None.is c.in_ok-at.ensures.found in
    no_market b c.args.search.now.request.now c.args.search.now.residual.now (g.B.ResidualBounds.bound c.args.search.now.bounds.now) c.args.search.now.limit c.args.flown.now.way.path c.args.flown.now.way.flights c.args.reverse key.from key.to c.args.found.now
    c.requires.flown.path (subst (λ gs. MarketOver c.args.reverse gs key.from key.to) c.as_slice.ensures.items c.key_over-key.ensures) none
