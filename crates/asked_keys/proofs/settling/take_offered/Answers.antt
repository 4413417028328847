use Rattle.std.proofs.Common.{ap, subst, ◌∙◌}
use Rattle.asked_keys.proofs.TakenKeys.{way_some}
use Rattle.fare_component.specs.Keys.{asked}
use Rattle.residual_keys.proofs.Markets.{asked_one}
use Rattle.residual_keys.proofs.Sheeted.{is_sheet, key_within, rows_within}
use Rattle.asked_keys.proofs.settling.take_offered.Goals as goal

pub may_be_offered-requires-clause-some : goal.may_be_offered-requires-clause-some
may_be_offered-requires-clause-some g c = way_some c.args.book.now c.requires.way.0 c.args.way.now c.requires.way.1

pub may_be_offered-requires-clause-flights : goal.may_be_offered-requires-clause-flights
may_be_offered-requires-clause-flights g c = c.requires.way.1.1.limits

pub may_be_offered-requires-clause-legs : goal.may_be_offered-requires-clause-legs
may_be_offered-requires-clause-legs g c = c.requires.way.1.1.legs.flights

pub returns-then-not-may_be_offered-clause-settled : goal.returns-then-not-may_be_offered-clause-settled
returns-then-not-may_be_offered-clause-settled g c = λ q is key k. g.met.O.OfferSource.nothing c.args.offers.now (asked key) (c.may_be_offered.ensures c.if-not-may_be_offered.true q is.1.legs key k)

pub take-requires : goal.take-requires
take-requires g c =
    let b = c.args.book.now in
    let way = c.args.way.now in
    let is = c.requires.way.1.1 in
    let sheet = c.args.market.now.sheet.value in
    let laws = c.order_laws.ensures in
    key_within (record { legs = c.copied.result; sheet = c.in_ok-try_clone.field-0 }) way.legs way.flights sheet c.copied.ensures c.in_ok-try_clone.ensures is.legs.flights (way_some b c.requires.way.0 way c.requires.way.1) is.path.shape.few is.limits
    (is_sheet laws.less_never laws.less_trans laws.less_total b c.limits.ensures sheet c.requires.market.sheet) (rows_within laws.less_never laws.less_trans laws.less_total b c.limits.ensures sheet c.requires.market.sheet)

pub returns-clause-settled : goal.returns-clause-settled
returns-clause-settled g c = λ q is key k.
    let b = c.args.book.now in
    let m = c.args.market.now in
    let way = c.args.way.now in
    let laws = c.order_laws.ensures in
    let one = asked_one laws.less_never laws.less_trans laws.less_total b q way.flights m.sheet.value.from m.sheet.value.to way.legs m.sheet.value key is.1.legs.each c.requires.market.sheet k in
    subst (g.O.OfferSource.settled c.take.new.self) (ap (λ s. record { legs = c.copied.result; sheet = s }) c.in_ok-try_clone.ensures ∙ ap (λ ls. record { legs = ls; sheet = m.sheet.value }) c.copied.ensures ∙ one) c.in_ok-take.ensures.asked
