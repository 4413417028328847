use Rattle.std.proofs.Common.{◌≡◌, ℕ, suc, ℤ, List, get_or, slice_get, w64, to_z, of_z, Some, None, sym, ap, ap₂, ◌∙◌, arith}
use Rattle.std.proofs.lemmas.Int.{ints}
use Rattle.fare_law.specs.declared.flights.Flight.{Flight}
use Rattle.fare_law.specs.declared.names.Place.{Place}
use Rattle.fare_law.specs.Days.{IsInstant}
use Rattle.fare_law.specs.Limits.{IsFlight}
use Rattle.flight_paths.specs.Plans.{plan_book}
use Rattle.flight_paths.specs.Positions.{position_before}
use Rattle.flight_paths.proofs.Places.{crossed_is, no_flight, no_slice}
use Rattle.flight_paths.proofs.Windows.{window_gone, window_known}
use Rattle.law_lemmas.proofs.EachOne.{each_got}
use Rattle.law_lemmas.proofs.Lists.{get_is, got_within}
use Rattle.law_lemmas.proofs.Options.{some_same}
use Rattle.flight_paths.proofs.parts.after_last.Goals as goal

pub bounds-slices-window : goal.bounds-slices-window
bounds-slices-window c =
    let b = plan_book c.args.schedule.now in
    let sl = c.args.slices.now in
    let w = c.in-Some.window in
    let i = suc c.args.start.now.slice in
    let k = window_known b i (slice_get sl i) w (sym c.in-Some.is ∙ c.requires.window) in
    got_within sl w.slice k.0 (ap (λ x. slice_get sl x.slice) k.2 ∙ k.1)

plain : (z : ℤ) → IsInstant z → to_z w64 (of_z w64 z) ≡ z
plain z h = omega (arith, ints, h.0, h.1)

arrives_at : (flights : List Flight) (n : ℕ) (f : Flight) (p : Place) → slice_get flights n ≡ Some f → (g : Flight) → slice_get flights n ≡ Some g → g.to ≡ p → f.to ≡ p
arrives_at flights n f p h g k e = ap (λ x. x.to) (some_same f g (sym h ∙ k)) ∙ e

pub position_after-requires-clause-window : goal.position_after-requires-clause-window
position_after-requires-clause-window c =
    let b = plan_book c.args.schedule.now in
    let sl = c.args.slices.now in
    let w = c.in-Some.window in
    let i = suc c.args.start.now.slice in
    let known = window_known b i (slice_get sl i) w (sym c.in-Some.is ∙ c.requires.window) in
    let there : slice_get sl w.slice ≡ Some known.0 = ap (λ x. slice_get sl x.slice) known.2 ∙ known.1 in
    let slice = get_is sl w.slice known.0 no_slice there in
    known.2 ∙ ap₂ (λ k s. position_before b k s None) (sym (ap (λ x. x.slice) known.2)) (sym slice)

pub returns-in-Some : goal.returns-in-Some
returns-in-Some c = λ f h s k.
    let b = plan_book c.args.schedule.now in
    let sl = c.args.slices.now in
    let w = c.in-Some.window in
    let i = suc c.args.start.now.slice in
    let known = window_known b i (slice_get sl i) w (sym c.in-Some.is ∙ c.requires.window) in
    let n = c.args.number in
    let to = arrives_at c.args.schedule.now.flights n f s.to h c.requires.arrives.0 c.requires.arrives.1 (c.requires.arrives.2 s k) in
    let leads = crossed_is b sl s c.args.start.now f (Some known.0) to known.1 in
    let there : slice_get sl w.slice ≡ Some known.0 = ap (λ x. slice_get sl x.slice) known.2 ∙ known.1 in
    let slice = get_is sl w.slice known.0 no_slice there in
    let flight : get_or c.flights.result.now n no_flight ≡ f = get_is c.flights.result.now n f no_flight (ap (λ fs. slice_get fs n) c.flights.ensures.flights ∙ h) in
    let arr : to_z w64 (of_z w64 (get_or c.flights.result.now n no_flight).arr) ≡ f.arr = ap (λ x. to_z w64 (of_z w64 x.arr)) flight ∙ plain f.arr (each_got IsFlight c.args.schedule.now.flights n f c.flights.ensures.limits h).arr in
    let is : c.position_after.result ≡ position_before b w.slice (get_or sl w.slice no_slice) (Some (to_z w64 (of_z w64 (get_or c.flights.result.now n no_flight).arr))) = c.position_after.ensures in
    ap Some (is ∙ ap₂ (λ k x. position_before b k x (Some (to_z w64 (of_z w64 (get_or c.flights.result.now n no_flight).arr)))) (ap (λ x. x.slice) known.2) slice ∙ ap (λ t. position_before b i known.0 (Some t)) arr) ∙ sym leads

pub returns-in-None : goal.returns-in-None
returns-in-None c = λ f h s k.
    let b = plan_book c.args.schedule.now in
    let sl = c.args.slices.now in
    let i = suc c.args.start.now.slice in
    let n = c.args.number in
    let to = arrives_at c.args.schedule.now.flights n f s.to h c.requires.arrives.0 c.requires.arrives.1 (c.requires.arrives.2 s k) in
    sym (crossed_is b sl s c.args.start.now f None to (window_gone b i (slice_get sl i) (sym c.in-None.is ∙ c.requires.window)))
