use Rattle.std.proofs.Common.{◌≢◌, sym, subst, refl}
use Rattle.std.specs.List.{All}
use Rattle.fare_law.specs.declared.flights.Flight.{Flight}
use Rattle.ticket_whole.proofs.Neighbours.{once_more, missed_from, none_left}
use Rattle.ticket_whole.proofs.routes.places_once.Goals as goal

pub loop-at-init : goal.loop-at-init
loop-at-init c = (λ h. h, λ h. h)

pub returns-then-not-misses : goal.returns-then-not-misses
returns-then-not-misses c = (λ t. absurd (cc), λ h. absurd (let m = c.misses.ensures.1 (subst (All (λ (f : Flight). c.loop-at.place ≢ f.to)) (sym c.split_at.ensures.back) (missed_from c.loop-at.place c.args.flights.now c.loop-at.at (c.loop-at.invariant.0 h))) in cc))

pub loop-at-preserved : goal.loop-at-preserved
loop-at-preserved c =
    let t = once_more c.loop-at.place c.args.flights.now c.loop-at.at _ c.loop-at-test.true (subst (All (λ (f : Flight). c.loop-at.place ≢ f.to)) c.split_at.ensures.back (c.misses.ensures.0 c.if-not-misses.false)) in
    (λ h. t.0 (c.loop-at.invariant.0 h), λ k. c.loop-at.invariant.1 (t.1 k))

pub returns : goal.returns
returns c = (λ t. c.loop-at.invariant.1 (none_left c.loop-at.place c.args.flights.now c.loop-at.at c.loop-at-test.false), λ h. refl)
