use Rattle.std.proofs.Common.{◌+◌, sym, subst, drop}
use Rattle.fare_law.specs.Limits.{IsFlight}
use Rattle.fare_law.specs.Lists.{Each}
use Rattle.ticket_whole.specs.Cuts.{CutsMeet}
use Rattle.ticket_whole.proofs.CutLemmas.{EndsAt, cut_none, start_wrong, demand_wrong, cut_on, arrives_in_time}
use Rattle.ticket_whole.proofs.KnownGathering.{each_drop}
use Rattle.law_lemmas.proofs.EachOne.{each_take}
use Rattle.ticket_whole.proofs.journey.cuts_meet.Goals as goal

pub returns-in_default : goal.returns-in_default
returns-in_default c = (
  λ t. absurd (cc),
  λ h. absurd (cut_none c.args.book.now c.args.demand c.loop-slice.arrival c.args.slices.now c.loop-slice.slice-index _ c.loop-slice-test.true c.loop-slice.rest.now c.in_default.ensures.cut (c.loop-slice.invariant.same.0 h)),
)

pub returns-then-not-begins_right : goal.returns-then-not-begins_right
returns-then-not-begins_right c = (
  λ t. absurd (cc),
  λ h. absurd (start_wrong c.args.book.now c.args.demand c.loop-slice.arrival c.args.slices.now c.loop-slice.slice-index _ c.loop-slice-test.true c.loop-slice.rest.now c.split_at.result.0.now c.split_at.result.1.now c.split_at.ensures.by_index.0
      (subst (EndsAt _) (sym c.split_at.ensures.front) c.in-Some.ensures.cut) (λ s. let m = c.begins_right.ensures.1 s in absurd (cc)) (c.loop-slice.invariant.same.0 h)),
)

pub returns-then-not-slice_meets : goal.returns-then-not-slice_meets
returns-then-not-slice_meets c = (
  λ t. absurd (cc),
  λ h. absurd (demand_wrong c.args.book.now c.args.demand c.loop-slice.arrival c.args.slices.now c.loop-slice.slice-index _ c.loop-slice-test.true c.loop-slice.rest.now c.split_at.result.0.now c.split_at.result.1.now c.split_at.ensures.by_index.0
      (subst (EndsAt _) (sym c.split_at.ensures.front) c.in-Some.ensures.cut) (λ s. let m = c.slice_meets.ensures.1 s in absurd (cc)) (c.loop-slice.invariant.same.0 h)),
)

pub loop-slice-preserved : goal.loop-slice-preserved
loop-slice-preserved c =
    let b = c.args.book.now in
    let ss = c.args.slices.now in
    let i = c.loop-slice.slice-index in
    let now = c.split_at.result.0.now in
    let later = c.split_at.result.1.now in
    let t = cut_on b c.args.demand c.loop-slice.arrival ss i _ c.loop-slice-test.true c.loop-slice.rest.now now later c.split_at.ensures.by_index.0
    (subst (EndsAt _) (sym c.split_at.ensures.front) c.in-Some.ensures.cut) (c.begins_right.ensures.0 c.if-not-begins_right.false) (c.slice_meets.ensures.0 c.if-not-slice_meets.false) in
    record {
      same = (
        λ h. subst (λ z. CutsMeet b c.args.demand z (drop (i + 1) ss) later) (sym c.last_arrival-arrival.ensures) (t.0 (c.loop-slice.invariant.same.0 h)),
        λ k. c.loop-slice.invariant.same.1 (t.1 (subst (λ z. CutsMeet b c.args.demand z (drop (i + 1) ss) later) c.last_arrival-arrival.ensures k)),
      );
      flights = subst (Each IsFlight) (sym c.split_at.ensures.back) (each_drop IsFlight _ c.loop-slice.rest.now c.loop-slice.invariant.flights);
      arrived = rw c.last_arrival-arrival.ensures (arrives_in_time now (subst (Each IsFlight) (sym c.split_at.ensures.front) (each_take IsFlight _ c.loop-slice.rest.now c.loop-slice.invariant.flights)));
    }
