use Rattle.std.proofs.Common.{ap, refl, subst, sym, ◌∙◌}
use Rattle.std.proofs.lemmas.List.{take_all}
use Rattle.cheap_moves.specs.Making.{Of}
use Rattle.cheap_moves.specs.Prospects.{IsProspectMove}
use Rattle.cheap_moves.proofs.Joining.{of_none}
use Rattle.cheap_moves.proofs.MarketMoves.{market_had}
use Rattle.cheap_moves.proofs.ProspectMoves.{prospect_had, prospect_none, prospects_more}
use Rattle.fare_groups.specs.declared.group.FareGroup.{FareGroup}
use Rattle.fare_groups.specs.Grouping.{AreInOrder}
use Rattle.fare_law.specs.Lists.{AllDifferent, Each, IsIn}
use Rattle.residual_keys.specs.Gathered.{Adds}
use Rattle.law_lemmas.proofs.Lists.{got_same}
use Rattle.law_lemmas.proofs.Members.{got_in}
use Rattle.cheap_moves.proofs.ways.add_market.Goals as goal

pub loop-prospect-init : goal.loop-prospect-init
loop-prospect-init g c = of_none (IsProspectMove c.args.search.now.request.now c.args.search.now.residual.now (g.B.ResidualBounds.bound c.args.search.now.bounds.now) c.args.search.now.limit c.args.flown.now c.args.reverse c.args.market.now) c.args.found.now

pub loop-prospect-preserved-in_default : goal.loop-prospect-preserved-in_default
loop-prospect-preserved-in_default g c =
    let laws = c.order_laws.ensures in
    let bound = g.B.ResidualBounds.bound c.args.search.now.bounds.now in
    prospects_more c.args.search.now.book.now c.args.search.now.request.now c.args.search.now.residual.now bound c.args.search.now.limit c.args.flown.now c.args.reverse c.args.market.now c.requires.over
    laws.less_never laws.less_trans laws.less_total c.as_slice-prospect-items.result.now c.loop-prospect.prospect-index _ _ c.args.found.now c.loop-prospect.found c.loop-prospect.found (subst AllDifferent (sym c.as_slice-prospect-items.ensures) c.requires.prospects.once) c.loop-prospect-test.true refl
    c.loop-prospect.invariant (prospect_none c.args.search.now.book.now c.args.search.now.request.now c.args.search.now.residual.now bound c.args.search.now.limit c.args.flown.now c.args.reverse c.args.market.now c.requires.over _ c.loop-prospect.found
    (λ way. subst (Each _) c.as_slice-groups.ensures (c.in_default.ensures.none way)))

pub place_from-requires : goal.place_from-requires
place_from-requires g c = subst AreInOrder (sym c.as_slice-groups.ensures) c.requires.over.over.groups_are.in_order

pub add_group-requires-clause-group : goal.add_group-requires-clause-group
add_group-requires-clause-group g c =
    let gs = c.as_slice-groups.result.now in
    let found = c.in-Some.ensures.some.1 in
    let same = got_same gs gs c.in-Some.at _ found.0 c.index-groups-at.result refl c.index-groups-at.is found.1 in
    subst (λ (z : FareGroup). IsIn z c.args.market.now.groups) (sym same) (subst (IsIn found.0) c.as_slice-groups.ensures (got_in gs c.in-Some.at found.0 found.1))

pub loop-prospect-preserved : goal.loop-prospect-preserved
loop-prospect-preserved g c =
    let laws = c.order_laws.ensures in
    let bound = g.B.ResidualBounds.bound c.args.search.now.bounds.now in
    let m = c.args.market.now in
    let gs = c.as_slice-groups.result.now in
    let x = c.in-Some.ensures.some in
    let same = got_same gs gs c.in-Some.at _ x.1.0 c.index-groups-at.result refl c.index-groups-at.is x.1.1 in
    let within = subst (λ (z : FareGroup). IsIn z m.groups) (sym same) (subst (IsIn x.1.0) c.as_slice-groups.ensures (got_in gs c.in-Some.at x.1.0 x.1.1)) in
    prospects_more c.args.search.now.book.now c.args.search.now.request.now c.args.search.now.residual.now bound c.args.search.now.limit c.args.flown.now c.args.reverse m c.requires.over
    laws.less_never laws.less_trans laws.less_total c.as_slice-prospect-items.result.now c.loop-prospect.prospect-index _ _ c.args.found.now c.loop-prospect.found c.add_group.new.found (subst AllDifferent (sym c.as_slice-prospect-items.ensures) c.requires.prospects.once) c.loop-prospect-test.true refl
    c.loop-prospect.invariant (prospect_had c.args.search.now.book.now c.args.search.now.request.now c.args.search.now.residual.now bound c.args.search.now.limit c.args.flown.now c.args.reverse m c.requires.over _ c.loop-prospect.found c.add_group.new.found c.index-groups-at.result x.0 within (ap (λ (z : FareGroup). z.key) same ∙ x.1.2) c.in_ok-add_group.ensures)

pub returns : goal.returns
returns g c =
    let q = c.args.search.now.request.now in
    let r = c.args.search.now.residual.now in
    let bound = g.B.ResidualBounds.bound c.args.search.now.bounds.now in
    let limit = c.args.search.now.limit in
    let flown = c.args.flown.now in
    let m = c.args.market.now in
    let items = c.as_slice-prospect-items.result.now in
    market_had c.args.search.now.book.now q r bound limit flown c.args.reverse m c.requires.over c.requires.prospects c.args.found.now c.loop-prospect.found
    (subst (λ xs. Adds (Of (IsProspectMove q r bound limit flown c.args.reverse m) xs) c.args.found.now c.loop-prospect.found) (take_all c.loop-prospect.prospect-index items c.loop-prospect-test.false ∙ c.as_slice-prospect-items.ensures) c.loop-prospect.invariant)
