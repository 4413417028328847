use Rattle.std.proofs.Common.{◌≡◌, ◌≤◌, MatchOption, ap, length, subst, sym, vec_len, ◌∙◌, arith}
use Rattle.asked_keys.proofs.TakenKeys.{key_of_market, way_some}
use Rattle.fare_ends.specs.declared.markets.Market.{Market}
use Rattle.fare_ends.specs.Markets.{IsMarket, StandsAt}
use Rattle.fare_book.specs.Keeping.{NoFare}
use Rattle.residual_keys.specs.AskedKeys.{IsKey}
use Rattle.residual_keys.specs.Steps.{MarketOver}
use Rattle.residual_keys.proofs.Markets.{no_sheet}
use Rattle.law_lemmas.proofs.EachOne.{each_in}
use Rattle.law_lemmas.proofs.Lists.{got_is, got_within}
use Rattle.law_lemmas.proofs.Members.{got_in}
use Rattle.law_lemmas.proofs.Options.{on_ok}
use Rattle.asked_keys.proofs.settling.take_filed.Goals as goal

pub market_over-ends-requires : goal.market_over-ends-requires
market_over-ends-requires g c = subst (λ fs. 1 ≤ length fs) (sym c.as_slice.ensures.items) (way_some c.args.book.now c.requires.way.0 c.args.way.now c.requires.way.1)

pub returns-in_default-clause-settled : goal.returns-in_default-clause-settled
returns-in_default-clause-settled g c = λ q is key k.
    let b = c.args.book.now in
    let fs = c.args.way.now.flights in
    let ends = c.market_over-ends.result in
    let over = subst (λ gs. MarketOver c.args.reverse gs ends.from ends.to) c.as_slice.ensures.items c.market_over-ends.ensures in
    let own = key_of_market b q fs c.args.reverse ends.from ends.to key over k in
    absurd (no_sheet b ends.from ends.to key.sheet.value (subst (λ o. MatchOption o (NoFare b ends.from ends.to) (StandsAt c.find.new.self.kept.items ends)) c.in_default.is c.in_ok-at.ensures.found) own.1)

pub index-requires : goal.index-requires
index-requires g c =
    let s = subst (λ o. MatchOption o (NoFare c.args.book.now c.market_over-ends.result.from c.market_over-ends.result.to) (StandsAt c.find.new.self.kept.items c.market_over-ends.result)) c.in-Some.is c.in_ok-at.ensures.found in
    let lt = got_within c.find.new.self.kept.items c.in-Some.at s.market s.stands in
    let e : vec_len c.find.new.self.kept ≡ length c.find.new.self.kept.items = omega arith in
    omega (arith, lt, e)

pub take_offered-requires-clause-market : goal.take_offered-requires-clause-market
take_offered-requires-clause-market g c =
    let s = subst (λ o. MatchOption o (NoFare c.args.book.now c.market_over-ends.result.from c.market_over-ends.result.to) (StandsAt c.find.new.self.kept.items c.market_over-ends.result)) c.in-Some.is c.in_ok-at.ensures.found in
    let ms = c.find.new.self.kept.items in
    let same : c.index.result.now ≡ s.market = c.index.ensures ∙ got_is ms c.in-Some.at c.index.result.now s.market s.stands in
    subst (IsMarket c.args.book.now) (sym same) (each_in (IsMarket c.args.book.now) ms s.market c.in_ok-at.ensures.kept (got_in ms c.in-Some.at s.market s.stands))

pub returns-clause-settled : goal.returns-clause-settled
returns-clause-settled g c =
    let b = c.args.book.now in
    let fs = c.args.way.now.flights in
    let ends = c.market_over-ends.result in
    let s = subst (λ o. MatchOption o (NoFare b ends.from ends.to) (StandsAt c.find.new.self.kept.items ends)) c.in-Some.is c.in_ok-at.ensures.found in
    let ms = c.find.new.self.kept.items in
    let same : c.index.result.now ≡ s.market = c.index.ensures ∙ got_is ms c.in-Some.at c.index.result.now s.market s.stands in
    let over = subst (λ gs. MarketOver c.args.reverse gs ends.from ends.to) c.as_slice.ensures.items c.market_over-ends.ensures in
    on_ok c.take_offered.result _ _ (λ settled q is key k.
    let own = key_of_market b q fs c.args.reverse ends.from ends.to key over k in
    let from = ap (λ (m : Market). m.sheet.value.from) same ∙ s.from in
    let to = ap (λ (m : Market). m.sheet.value.to) same ∙ s.to in
    settled q is key (subst (λ p. IsKey b q fs p c.index.result.now.sheet.value.to key) (sym from) (subst (λ p. IsKey b q fs ends.from p key) (sym to) own))) c.take_offered.ensures.settled
