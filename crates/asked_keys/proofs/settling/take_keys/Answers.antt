use Rattle.std.proofs.Common.{◌≡◌, ap, subst, sym, ◌∙◌, arith}
use Rattle.std.proofs.lemmas.List.{take_all}
use Rattle.asked_keys.specs.Offering.{AreServed}
use Rattle.asked_keys.proofs.KeyHomes.{key_numbers}
use Rattle.asked_keys.proofs.ServedPaths.{all_keys, served_at}
use Rattle.asked_keys.proofs.TakenKeys.{way_of}
use Rattle.fare_component.specs.Keys.{asked}
use Rattle.fare_law.specs.declared.market.OfferKey.{OfferKey}
use Rattle.residual_keys.specs.AskedKeys.{KeyOfFlights}
use Rattle.residual_keys.specs.Residuals.{State}
use Rattle.residual_keys.proofs.PathByPath.{HoldsOn, holds_more}
use Rattle.residual_keys.proofs.StepTaken.{path_known}
use Rattle.asked_keys.proofs.settling.take_keys.Goals as goal

pub returns-then-from-len-clause-settled : goal.returns-then-from-len-clause-settled
returns-then-from-len-clause-settled g c = λ key k.
    let at : c.residual.inside.at.slice ≡ c.args.residual.now.at.slice = ap (λ x. x.at.slice) c.residual.view_is in
    let lt = path_known c.args.book.now c.args.request.now c.args.residual.now k.numbers k.flights k.next k.path in
    absurd (omega (arith, lt, at, c.if-from-len.true, c.from.ensures, c.len.ensures.value))

pub of-way-requires : goal.of-way-requires
of-way-requires g c =
    let b = c.args.book.now in
    let q = c.args.request.now in
    let r = c.args.residual.now in
    let are = subst (λ (x : State). AreServed b q x.at c.in_ok-paths.paths) c.residual.view_is c.in_ok-paths.ensures.paths in
    let one = served_at b q r c.in_ok-paths.paths c.as_slice-path-items.result.now c.loop-path.path-index c.path-item.result c.as_slice-path-items.ensures c.loop-path-test.true c.path-item.is are in
    (r, one.0, one.1)

pub take_way-requires-clause-way : goal.take_way-requires-clause-way
take_way-requires-clause-way g c =
    let b = c.args.book.now in
    let q = c.args.request.now in
    let r = c.args.residual.now in
    let way = c.of-way.ensures in
    let are = subst (λ (x : State). AreServed b q x.at c.in_ok-paths.paths) c.residual.view_is c.in_ok-paths.ensures.paths in
    let one = served_at b q r c.in_ok-paths.paths c.as_slice-path-items.result.now c.loop-path.path-index c.path-item.result c.as_slice-path-items.ensures c.loop-path-test.true c.path-item.is are in
    (q, way_of b q r c.path-item.result one.0 c.of-way.result way.path (way.flights r one.0 one.1) way.limits way.legs one.1)

pub loop-path-preserved-then-settles_home : goal.loop-path-preserved-then-settles_home
loop-path-preserved-then-settles_home g c =
    let b = c.args.book.now in
    let q = c.args.request.now in
    let r = c.args.residual.now in
    let path = c.path-item.result in
    let before = c.loop-path.invariant in
    let now = c.settles_home.ensures in
    record {
      network = before.network;
      base = now.base ∙ before.base;
      stays = λ a h. now.stays a (before.stays a h);
      settled =
          holds_more b q r c.as_slice-path-items.result.now (λ key. g.O.OfferSource.settled c.settles_home.new.self (asked key)) c.loop-path.path-index path path c.loop-path-test.true c.path-item.is
          (λ p w fs h key k. now.stays (asked key) (before.settled p w fs h key k))
          (λ fs h key k. now.those c.if-settles_home.true (asked key) (sym (c.home_over.ensures.value (asked key) (key_numbers b q r path fs key h k))));
    }

pub loop-path-preserved : goal.loop-path-preserved
loop-path-preserved g c =
    let b = c.args.book.now in
    let q = c.args.request.now in
    let r = c.args.residual.now in
    let path = c.path-item.result in
    let before = c.loop-path.invariant in
    let now = c.in_ok-take_way.ensures in
    let way = c.of-way.ensures in
    record {
      network = record {
        markets = now.markets;
        tails = before.network.tails;
        marks = before.network.marks;
        masks = before.network.masks;
        ends = before.network.ends;
        slices = before.network.slices;
        fare_tails = before.network.fare_tails;
        room = before.network.room;
      };
      base = now.base ∙ c.settles_home.ensures.base ∙ before.base;
      stays = λ a h. now.stays a (c.settles_home.ensures.stays a (before.stays a h));
      settled =
          holds_more b q r c.as_slice-path-items.result.now (λ key. g.O.OfferSource.settled c.take_way.new.offers (asked key)) c.loop-path.path-index path path c.loop-path-test.true c.path-item.is
          (λ p w fs h key k. now.stays (asked key) (c.settles_home.ensures.stays (asked key) (before.settled p w fs h key k)))
          (λ fs h key k.
          let same = way.flights r fs h in
          now.settled q (way_of b q r path fs c.of-way.result way.path same way.limits way.legs h) key (subst (λ gs. KeyOfFlights b q r gs key) (sym same) k));
    }

pub returns-clause-settled : goal.returns-clause-settled
returns-clause-settled g c =
    let b = c.args.book.now in
    let q = c.args.request.now in
    let r = c.args.residual.now in
    let items = c.as_slice-path-items.result.now in
    let are = subst (λ (x : State). AreServed b q x.at c.in_ok-paths.paths) c.residual.view_is c.in_ok-paths.ensures.paths in
    let settled = λ (key : OfferKey). g.O.OfferSource.settled c.loop-path.offers (asked key) in
    all_keys b q r items settled (subst (AreServed b q r.at) (sym c.as_slice-path-items.ensures) are) (subst (HoldsOn b q r settled) (take_all c.loop-path.path-index items c.loop-path-test.false) c.loop-path.invariant.settled)
