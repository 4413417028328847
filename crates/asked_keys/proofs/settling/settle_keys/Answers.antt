use Rattle.std.proofs.Common.{refl, subst, sym, take, ◌∙◌}
use Rattle.std.proofs.lemmas.List.{take_all}
use Rattle.asked_keys.specs.Asking.{HasKeysSettled}
use Rattle.fare_component.specs.Keys.{asked}
use Rattle.fare_law.specs.Lists.{Each}
use Rattle.law_lemmas.proofs.EachOne.{each_by, each_more}
use Rattle.law_lemmas.proofs.Lists.{front_read}
use Rattle.asked_keys.proofs.settling.settle_keys.Goals as goal

pub loop-residual-init : goal.loop-residual-init
loop-residual-init g c = record { network = c.new-network.ensures c.args.book.now c.args.request.now; settled = tt; base = refl; stays = λ a h. h }

pub loop-residual-preserved : goal.loop-residual-preserved
loop-residual-preserved g c =
    let all = c.args.residuals.now in
    let i = c.loop-residual.residual-index in
    let residual = c.residual-item.result in
    let before = c.loop-residual.invariant in
    let now = c.in_ok-take_all.ensures in
    let Before = HasKeysSettled c.args.book.now c.args.request.now (g.O.OfferSource.settled c.loop-residual.offers) in
    let Now = HasKeysSettled c.args.book.now c.args.request.now (g.O.OfferSource.settled c.take_all.new.offers) in
    record {
      network = now.network;
      settled =
          subst (Each Now) (sym (front_read all i residual residual c.loop-residual-test.true c.residual-item.is))
          (each_more Now (take i all) residual (each_by Before Now (take i all) (λ x settled key k. now.stays (asked key) (settled key k)) before.settled) now.settled);
      base = now.base ∙ before.base;
      stays = λ a h. now.stays a (before.stays a h);
    }

pub returns-clause-settled : goal.returns-clause-settled
returns-clause-settled g c =
    subst (Each (HasKeysSettled c.args.book.now c.args.request.now (g.O.OfferSource.settled c.loop-residual.offers))) (take_all c.loop-residual.residual-index c.args.residuals.now c.loop-residual-test.false) c.loop-residual.invariant.settled
