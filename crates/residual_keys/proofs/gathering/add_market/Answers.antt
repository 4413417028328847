use Rattle.std.proofs.Common.{subst}
use Rattle.std.specs.Arc.{arc_value}
use Rattle.residual_keys.proofs.Markets.{asked_one, no_moves, no_sheet}
use Rattle.residual_keys.proofs.gathering.add_market.Goals as goal

pub returns-in_ok-add_sheet-in-Some-clause-asked : goal.returns-in_ok-add_sheet-in-Some-clause-asked
returns-in_ok-add_sheet-in-Some-clause-asked g c = λ key k.
    let laws = c.order_laws.ensures in
    subst (g.O.OfferSource.settled c.add_sheet.new.offers) (asked_one laws.less_never laws.less_trans laws.less_total c.args.book.now c.args.request.now c.args.way.now.flights c.args.market.from c.args.market.to c.args.way.now.legs (arc_value c.in-Some.sheet.now) key c.requires.way.legs.each c.in-Some.ensures k) c.in_ok-add_sheet-in-Some.ensures.asked

pub returns-in-None-clause-moves : goal.returns-in-None-clause-moves
returns-in-None-clause-moves g c = no_moves c.args.book.now c.args.request.now c.args.residual.now c.args.way.now.path c.args.way.now.flights c.args.market.reverse c.args.market.from c.args.market.to c.args.found.now c.requires.way.path c.requires.market c.in-None.ensures

pub returns-in-None-clause-asked : goal.returns-in-None-clause-asked
returns-in-None-clause-asked g c = λ key k. absurd (no_sheet c.args.book.now c.args.market.from c.args.market.to key.sheet.value c.in-None.ensures k.1)
