use Rattle.std.proofs.Common.{List, MatchOption, sym, subst, ◌∙◌}
use Rattle.fare_book.specs.Keeping.{NoFare}
use Rattle.fare_ends.specs.declared.markets.Market.{Market}
use Rattle.fare_ends.specs.Ends.{HasGroupsUpTo, HasWay}
use Rattle.fare_ends.specs.Markets.{StandsAt}
use Rattle.fare_ends.specs.Reaches.{FiledAt}
use Rattle.fare_ends.proofs.WayFacts.{way_found}
use Rattle.law_lemmas.proofs.Lists.{got_is}
use Rattle.law_lemmas.proofs.Options.{on_ok}
use Rattle.fare_ends.proofs.ends.FareEnds.add_way.Goals as goal

pub returns-in-Some-clause-way : goal.returns-in-Some-clause-way
returns-in-Some-clause-way c =
    let b = c.args.case.now.book.now in
    let way = c.args.way in
    let key = c.market.result in
    let ms = c.find.new.self.kept.items in
    let filed = c.in-Some.filed in
    let new = c.add_market.new.self in
    let found = c.add_market.new.found.items in
    let at = subst (λ (xs : List Market). MatchOption c.in_ok-place.place (NoFare b key.from key.to) (StandsAt xs key)) (sym c.as_slice.ensures.value) c.in_ok-place.ensures.found in
    let there = subst (λ o. MatchOption o (NoFare b key.from key.to) (FiledAt c.as_slice.result.now key way.key.carrier)) c.in-Some.is (c.filed_at.ensures b key at) in
    let fd = subst (λ (xs : List Market). FiledAt xs key way.key.carrier filed) c.as_slice.ensures.value there in
    let same = c.index.ensures ∙ got_is ms filed.market c.index.result.now fd.at.market fd.at.stands in
    on_ok c.add_market.result (HasGroupsUpTo new way c.index.result.now.groups filed.from filed.to found) (HasWay b way.key new way.reverse found)
    (λ h. way_found b ms way key filed new found c.in_ok-place.ensures.kept fd c.market.ensures.from c.market.ensures.to (subst (λ (m : Market). HasGroupsUpTo new way m.groups filed.from filed.to found) same h)) c.add_market.ensures.has
