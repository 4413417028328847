-- The position before a slice after an arrival, told by that where no flight has arrived: the slice's window.
use Rattle.std.proofs.Common.{◌≡◌, ℕ, suc, ℤ, pos, ◌≤◌, ◌<◌, ◌+ℤ◌, ◌≤ℤ◌, ◌<ℤ◌, Bool, true, false, cond, List, [], ◌∷◌, get_or, slice_get, Option, Some, None, refl, sym, ap₂, subst, ◌∙◌, inl, inr, arith}
use Rattle.std.proofs.lemmas.Bool.{cases_Bool, cases_lt, and_parts, and_from}
use Rattle.std.proofs.lemmas.Int.{ints, by_lt_z}
use Rattle.fare_law.specs.declared.flights.Flight.{Flight}
use Rattle.fare_law.specs.declared.requests.Slice.{Slice}
use Rattle.fare_law.specs.Book.{Book, connect, same_place}
use Rattle.fare_law.specs.Flights.{Ascending}
use Rattle.fare_law.specs.Lists.{IsIn}
use Rattle.schedule_book.specs.Departures.{AreDepartures}
use Rattle.flight_paths.specs.declared.positions.Position.{Position}
use Rattle.flight_paths.specs.Positions.{before_first, before_slice, end_of_range, fits_before, in_window, is_zero, position_before, start_of_range}
use Rattle.flight_paths.specs.Ranges.{AreAround, departs_in}
use Rattle.flight_paths.proofs.Bounds.{before, counted, in_window_at}
use Rattle.flight_paths.proofs.Fitting.{end_after, in_range}
use Rattle.flight_paths.proofs.Places.{no_flight}
use Rattle.flight_paths.proofs.Told.{int_le_is, le_int_le, same_place_is, same_place_self}
use Rattle.law_lemmas.proofs.Lists.{got_read, got_within}
use Rattle.law_lemmas.proofs.Options.{some_none, some_same}

-- tests that agree on flights span one range of them
end_alike : (t u : Flight → Bool) (fs : List Flight) → ((n : ℕ) (f : Flight) → slice_get fs n ≡ Some f → t f ≡ u f) → end_of_range t fs ≡ end_of_range u fs
end_alike t u [] h = refl
end_alike t u (f ∷ fs) h = ap₂ (λ r c. cond (is_zero r) (cond c 1 0) (suc r)) (end_alike t u fs (λ n g e. h (suc n) g e)) (h 0 f refl)

first_alike : (t u : Flight → Bool) (fs : List Flight) → ((n : ℕ) (f : Flight) → slice_get fs n ≡ Some f → t f ≡ u f) → before_first t fs ≡ before_first u fs
first_alike t u [] h = refl
first_alike t u (f ∷ fs) h = ap₂ (λ c r. cond c 0 (suc r)) (h 0 f refl) (first_alike t u fs (λ n g e. h (suc n) g e))

start_alike : (t u : Flight → Bool) (fs : List Flight) → ((n : ℕ) (f : Flight) → slice_get fs n ≡ Some f → t f ≡ u f) → start_of_range t fs ≡ start_of_range u fs
start_alike t u fs h = ap₂ (λ r k. cond (is_zero r) 0 k) (end_alike t u fs h) (first_alike t u fs h)

clash : {c : Bool} → c ≡ false → c ≡ true → ⊥
clash x y = cc

module _ (b : Book) (s : Slice) (arrival opens : ℤ) (asc : Ascending b.timetable.flights) (is : opens ≡ arrival +ℤ pos (connect b s.from)) where
  -- a flight of the window fits after the arrival where it departs late enough
  late_fits : (f : Flight) → fits_before b s None f ≡ true → opens ≤ℤ f.dep → fits_before b s (Some arrival) f ≡ true
  late_fits f t le =
      let p = and_parts (same_place f.from s.from) _ t in
      let q = and_parts (in_window s f) _ p.1 in
      and_from _ _ p.0 (and_from _ _ q.0 (le_int_le (arrival +ℤ pos (connect b s.from)) f.dep (subst (λ x. x ≤ℤ f.dep) is le)))

  fits_late : (f : Flight) → fits_before b s (Some arrival) f ≡ true → (fits_before b s None f ≡ true) × (opens ≤ℤ f.dep)
  fits_late f t =
      let p = and_parts (same_place f.from s.from) _ t in
      let q = and_parts (in_window s f) _ p.1 in
      (and_from _ _ p.0 (and_from _ _ q.0 refl), subst (λ x. x ≤ℤ f.dep) (sym is) (int_le_is (arrival +ℤ pos (connect b s.from)) f.dep q.1))

  not_before : (t : ℤ) → (t <ℤ opens → ⊥) → opens ≤ℤ t
  not_before t h = by_lt_z t opens (λ lt. absurd (h lt)) (λ le. le)

  too_soon : (t : ℤ) → opens ≤ℤ t → t <ℤ opens → ⊥
  too_soon t x y = omega (arith, ints)

  -- where the window's first flight departs late enough, each of them does
  window_alike : ((f : Flight) → slice_get b.timetable.flights (start_of_range (fits_before b s None) b.timetable.flights) ≡ Some f → opens ≤ℤ f.dep)
      → (n : ℕ) (f : Flight) → slice_get b.timetable.flights n ≡ Some f → fits_before b s (Some arrival) f ≡ fits_before b s None f
  window_alike late n f h = elim (cases_Bool (fits_before b s None f)) [
    | inl t ↦ late_fits f t (not_before f.dep (early t)) ∙ sym t
    | inr t ↦ elim (cases_Bool (fits_before b s (Some arrival) f)) [
      | inl u ↦ absurd (clash t (fits_late f u).0)
      | inr u ↦ u ∙ sym t
    ]
  ]
    where
      early : fits_before b s None f ≡ true → f.dep <ℤ opens → ⊥
      early t lt =
          let first = start_of_range (fits_before b s None) b.timetable.flights in
          let g = get_or b.timetable.flights first no_flight in
          let low : first ≤ n = (in_range (fits_before b s None) b.timetable.flights n f h t).0 in
          let known : slice_get b.timetable.flights first ≡ Some g = got_read b.timetable.flights first no_flight (under first low (got_within b.timetable.flights n f h)) in
          too_soon g.dep (late g known) ((counted opens b.timetable.flights first g asc known).0 (under first low ((counted opens b.timetable.flights n f asc h).1 lt)))
        where
          under : {k : ℕ} (m : ℕ) → m ≤ n → n < k → m < k
          under m x y = omega arith

  -- so the position after the arrival is that of the window
  pub window_late : (i : ℕ) → ((f : Flight) → slice_get b.timetable.flights (position_before b i s None).lo ≡ Some f → opens ≤ℤ f.dep) → position_before b i s None ≡ position_before b i s (Some arrival)
  window_late i late =
      let fs = b.timetable.flights in
      let same = window_alike late in
      let lo = start_alike (fits_before b s (Some arrival)) (fits_before b s None) fs same in
      let hi = end_alike (fits_before b s (Some arrival)) (fits_before b s None) fs same in
      sym (λ k. record { slice = i; leg = 0; place = s.from; via = None; lo = lo k; hi = hi k })

  -- and the departures of the window from the first that is late enough are those after the arrival
  pub window_around : (hi : ℕ) (numbers : List ℕ) → hi ≡ end_of_range (fits_before b s None) b.timetable.flights → AreDepartures b.timetable.flights s.from (before opens b.timetable.flights) hi numbers → AreAround b s (Some arrival) numbers
  window_around hi numbers e d = record {
    ascending = d.ascending;
    known = λ n i. let r = (d.are n).0 i in got_within b.timetable.flights n r.2.0 r.2.1;
    are = λ n. (forth n, back n);
  }
    where
      forth : (n : ℕ) → IsIn n numbers × (departs_in b.timetable.flights s n ≡ true) → (f : Flight) × (slice_get b.timetable.flights n ≡ Some f) × (fits_before b s (Some arrival) f ≡ true)
      forth n (i, w) =
          let r = (d.are n).0 i in
          let f = r.2.0 in
          let inside : in_window s f ≡ true = sym (in_window_at b.timetable.flights s n f r.2.1) ∙ w in
          let opened : opens ≤ℤ f.dep = not_before f.dep (λ lt. apart r.0 ((counted opens b.timetable.flights n f asc r.2.1).1 lt)) in
          (f, r.2.1, late_fits f (and_from _ _ (same_place_self f.from s.from r.2.2) (and_from _ _ inside refl)) opened)
        where
          apart : {k : ℕ} → k ≤ n → n < k → ⊥
          apart x y = omega arith

      back : (n : ℕ) → (f : Flight) × (slice_get b.timetable.flights n ≡ Some f) × (fits_before b s (Some arrival) f ≡ true) → IsIn n numbers × (departs_in b.timetable.flights s n ≡ true)
      back n (f, h, t) =
          let r = fits_late f t in
          let p = and_parts (same_place f.from s.from) _ r.0 in
          let q = and_parts (in_window s f) _ p.1 in
          let high : n < hi = subst (λ k. n < k) (sym e) (end_after (fits_before b s None) b.timetable.flights n f h r.0) in
          ((d.are n).1 (at_least r.1, high, (f, h, same_place_is f.from s.from p.0)), in_window_at b.timetable.flights s n f h ∙ q.0)
        where
          at_least : opens ≤ℤ f.dep → before opens b.timetable.flights ≤ n
          at_least le = elim (cases_lt n (before opens b.timetable.flights)) [
            | inl lt ↦ absurd (too_soon f.dep le ((counted opens b.timetable.flights n f asc h).0 lt))
            | inr g ↦ g
          ]

-- a window is that of a slice
pub window_known : (b : Book) (i : ℕ) (o : Option Slice) (w : Position) → Some w ≡ before_slice b i o None → (s : Slice) × (o ≡ Some s) × (w ≡ position_before b i s None)
window_known b i None w e = absurd (some_none w e)
window_known b i (Some s) w e = (s, refl, some_same w (position_before b i s None) e)

pub window_gone : (b : Book) (i : ℕ) (o : Option Slice) → None ≡ before_slice b i o None → o ≡ None
window_gone b i None e = refl
window_gone b i (Some s) e = absurd (some_none (position_before b i s None) (sym e))
