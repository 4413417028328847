use Rattle.std.proofs.Common.{◌≡◌, rules, ℤ, ◌<◌, ◌+ℤ◌, ◌≤ℤ◌, w64, to_z, of_z, filter, length, slice_get, Some, None, sym, ap, subst, ◌∙◌, arith}
use mir.Val.{SFits}
use Rattle.std.proofs.lemmas.Int.{ints, to_z-of_z}
use Rattle.fare_law.specs.declared.flights.Flight.{Flight}
use Rattle.fare_law.specs.Days.{IsInstant}
use Rattle.schedule_book.specs.Departures.{AreDepartures}
use Rattle.flight_paths.specs.Plans.{plan_book}
use Rattle.flight_paths.specs.Positions.{end_of_range, fits_before, position_before, start_of_range}
use Rattle.flight_paths.specs.Ranges.{departs_in, first_of, past_of}
use Rattle.flight_paths.proofs.Bounds.{before, window_is}
use Rattle.flight_paths.proofs.Fitting.{start_is, end_is}
use Rattle.law_lemmas.proofs.Lists.{got_within}
use Rattle.flight_paths.proofs.Windows.{window_around, window_late}
use Rattle.flight_paths.proofs.ranges.position_after.Goals as goal

plain : (z : ℤ) → SFits w64 z → to_z w64 (of_z w64 z) ≡ z
plain z f = to_z-of_z w64 z f

opens_at : (z e t : ℤ) → IsInstant z → e ≡ to_z w64 (of_z w64 z) +ℤ t → e ≡ z +ℤ t
opens_at z e t h k = omega (arith, ints, h.0, h.1, k)

pub returns-then-opens_late : goal.returns-then-opens_late
returns-then-opens_late c =
    let b = plan_book c.args.schedule.now in
    let s = c.args.slice.now in
    let w = c.args.window.now in
    let opens = c.earliest-opens.result in
    let is = opens_at c.args.arrival opens _ c.requires.arrival c.earliest-opens.ensures.value in
    let late : (f : Flight) → slice_get b.timetable.flights (position_before b w.slice s None).lo ≡ Some f → opens ≤ℤ f.dep =
    λ f h. subst (λ t. t ≤ℤ f.dep) (plain opens (search rules)) (c.opens_late.ensures c.if-opens_late.true f
    (subst (λ fs. slice_get fs w.lo ≡ Some f) (sym c.flights-flights.ensures.flights) (ap (λ x. slice_get b.timetable.flights x.lo) c.requires.window ∙ h)))
    in
    c.requires.window ∙ window_late b s c.args.arrival opens c.flights-flights.ensures.ascending is w.slice late

pub first_in_window-requires : goal.first_in_window-requires
first_in_window-requires c = λ n i.
    let r = (c.from_place-numbers.ensures.are n).0 i in
    subst (λ fs. n < length fs) (sym c.flights-flights.ensures.flights) (got_within c.args.schedule.now.flights n r.2.0 r.2.1)

pub past_in_window-requires-clause-known : goal.past_in_window-requires-clause-known
past_in_window-requires-clause-known c = λ n i.
    let r = (c.from_place-numbers.ensures.are n).0 i in
    subst (λ fs. n < length fs) (sym c.flights-flights.ensures.flights) (got_within c.args.schedule.now.flights n r.2.0 r.2.1)

pub returns : goal.returns
returns c =
    let b = plan_book c.args.schedule.now in
    let s = c.args.slice.now in
    let w = c.args.window.now in
    let fs = c.args.schedule.now.flights in
    let ns = c.from_place-numbers.result.now in
    let after = Some c.args.arrival in
    let opens = c.earliest-opens.result in
    let is = opens_at c.args.arrival opens _ c.requires.arrival c.earliest-opens.ensures.value in
    let low : c.lower.result ≡ before opens fs = c.lower.ensures ∙ ap (λ t. before t fs) (plain opens (search rules)) in
    let around = window_around b s c.args.arrival opens c.flights-flights.ensures.ascending is w.hi ns (ap (λ x. x.hi) c.requires.window) (subst (λ n. AreDepartures fs s.from n w.hi ns) low c.from_place-numbers.ensures) in
    let fitting = window_is b s after ns around in
    let lo : c.first_in_window.result ≡ start_of_range (fits_before b s after) fs =
    c.first_in_window.ensures ∙ ap (λ xs. first_of (filter (departs_in xs s) ns)) c.flights-flights.ensures.flights ∙ sym (start_is (fits_before b s after) fs (filter (departs_in fs s) ns) fitting)
    in
    let hi : c.past_in_window.result ≡ end_of_range (fits_before b s after) fs =
    c.past_in_window.ensures ∙ ap (λ xs. past_of (filter (departs_in xs s) ns)) c.flights-flights.ensures.flights ∙ sym (end_is (fits_before b s after) fs (filter (departs_in fs s) ns) fitting)
    in
    let leg = ap (λ x. x.leg) c.requires.window in
    let place = ap (λ x. x.place) c.requires.window in
    let via = ap (λ x. x.via) c.requires.window in
    λ i. record { slice = w.slice; leg = leg i; place = place i; via = via i; lo = lo i; hi = hi i }
