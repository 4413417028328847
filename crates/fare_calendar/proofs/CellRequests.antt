-- The requests of columns and of cells are such where the whole request is, and differ in the window of the first slice: for
-- `calendar`.
use Rattle.std.proofs.Common.{◌≡◌, ℕ, ℤ, pos, ◌+ℤ◌, ◌≤ℤ◌, ◌+◌, ◌<◌, ◌≤◌, true, int_le, nat_le, List, [], ◌∷◌, length, refl, arith}
use Rattle.std.proofs.lemmas.Bool.{and_parts, leb-true}
use Rattle.std.proofs.lemmas.Int.{ints}
use Rattle.fare_calendar.specs.Cells.{cell, in_days, two_slices}
use Rattle.fare_calendar.specs.Sharing.{AreAlike, IsLike}
use Rattle.fare_calendar.specs.declared.columns.OutDays.{OutDays}
use Rattle.fare_calendar.specs.declared.spans.Spans.{Spans}
use Rattle.fare_calendar.specs.Calendars.{span_fits, spans_fit}
use Rattle.fare_calendar.specs.Columns.{AreDaysOut, HasCells, column}
use Rattle.fare_law.specs.declared.requests.Request.{Request}
use Rattle.fare_law.specs.declared.requests.Slice.{Slice}
use Rattle.fare_law.specs.Days.{IsCalendarDay}
use Rattle.fare_law.specs.Limits.{EndsDiffer, IsRequest, IsSlice}
use Rattle.fare_law.specs.Lists.{Each}
use Rattle.fare_law.specs.Requests.{within}

int_le_is : (x y : ℤ) → int_le x y ≡ true → x ≤ℤ y
int_le_is x y h = grind (arith, ints)

-- one of the days of a slice, and a slice that begins on it
day_within : (s : Slice) (days later : ℕ) → span_fits days s ≡ true → IsSlice s → later < days → IsCalendarDay (s.first +ℤ pos later)
day_within s days later fit is lt =
    let h = and_parts (within 1 31 days) _ fit in
    let last = int_le_is (s.first +ℤ pos days) (pos 47482) h.1 in
    (omega (arith, ints, is.first.0), omega (arith, ints, last, lt))

slice_on : (s : Slice) (days later n : ℕ) → span_fits days s ≡ true → IsSlice s → later < days → 1 ≤ n → n ≤ 7 → IsSlice (in_days s later n)
slice_on s days later n fit is lt some few = record { from = is.from; to = is.to; first = day_within s days later fit is lt; days = (some, few) }

-- the slices of a column
slices_on : (spans : Spans) (slices : List Slice) (i n j : ℕ) → length slices ≡ 2 → spans_fit spans slices ≡ true → Each IsSlice slices → i < spans.outs → 1 ≤ n → n ≤ 7 → j < spans.backs
    → Each IsSlice (two_slices (λ s. in_days s i n) (λ s. in_days s j 1) slices)
slices_on spans [] i n j two fit is oi some few bj = absurd (omega (arith, two))
slices_on spans (s ∷ []) i n j two fit is oi some few bj = absurd (omega (arith, two))
slices_on spans (s ∷ t ∷ []) i n j two fit is oi some few bj =
    let h = and_parts (span_fits spans.outs s) _ fit in
    (slice_on s spans.outs i n h.0 is.0 oi some few, (slice_on t spans.backs j 1 h.1 is.1.0 bj (omega arith) (omega arith), tt))
slices_on spans (s ∷ t ∷ u ∷ more) i n j two fit is oi some few bj = absurd (omega (arith, two))

ends_differ : (slices : List Slice) (i n j : ℕ) → length slices ≡ 2 → Each EndsDiffer slices → Each EndsDiffer (two_slices (λ s. in_days s i n) (λ s. in_days s j 1) slices)
ends_differ [] i n j two h = absurd (omega (arith, two))
ends_differ (s ∷ []) i n j two h = absurd (omega (arith, two))
ends_differ (s ∷ t ∷ []) i n j two h = h
ends_differ (s ∷ t ∷ u ∷ more) i n j two h = absurd (omega (arith, two))

still_two : (slices : List Slice) (i n j : ℕ) → length slices ≡ 2 → length (two_slices (λ s. in_days s i n) (λ s. in_days s j 1) slices) ≡ 2
still_two [] i n j two = absurd (omega (arith, two))
still_two (s ∷ []) i n j two = absurd (omega (arith, two))
still_two (s ∷ t ∷ []) i n j two = refl
still_two (s ∷ t ∷ u ∷ more) i n j two = absurd (omega (arith, two))

pub column_is : (q : Request) (spans : Spans) (outs : OutDays) (j : ℕ) → HasCells q spans → outs.first < spans.outs → 1 ≤ outs.count → outs.count ≤ 7 → j < spans.backs → IsRequest (column q outs j)
column_is q spans outs j h oi some few bj =
    let same = still_two q.slices outs.first outs.count j h.two in
    record {
      sale = h.right.sale;
      party = h.right.party;
      best = (omega arith, omega arith);
      count = (omega (arith, same), omega (arith, same));
      windows = slices_on spans q.slices outs.first outs.count j h.two h.fit h.right.windows oi some few bj;
      departs = ends_differ q.slices outs.first outs.count j h.two h.right.departs;
    }

-- a cell is a column of one day
pub cell_is : (q : Request) (spans : Spans) (i j : ℕ) → HasCells q spans → i < spans.outs → j < spans.backs → IsRequest (cell q i j)
cell_is q spans i j h oi bj = column_is q spans (record { first = i; count = 1 }) j h oi (omega arith) (omega arith) bj

pub cell_two : (q : Request) (i j : ℕ) → length q.slices ≡ 2 → length (cell q i j).slices ≡ 2
cell_two q i j two = still_two q.slices i 1 j two

-- a cell differs from its column in the window of the first slice
pub cell_like : (q : Request) (outs : OutDays) (i j : ℕ) → length q.slices ≡ 2 → IsLike (column q outs j) (cell q i j)
cell_like q outs i j two = record { sale = refl; party = refl; slices = alike q.slices two }
  where
    alike : (slices : List Slice) → length slices ≡ 2 → AreAlike (two_slices (λ s. in_days s outs.first outs.count) (λ s. in_days s j 1) slices) (two_slices (λ s. in_days s i 1) (λ s. in_days s j 1) slices)
    alike [] e = absurd (omega (arith, e))
    alike (s ∷ []) e = absurd (omega (arith, e))
    alike (s ∷ t ∷ []) e = (refl, refl, refl)
    alike (s ∷ t ∷ u ∷ more) e = absurd (omega (arith, e))

-- a day out is one of the calendar's
pub out_within : (spans : Spans) (outs : OutDays) (later : ℕ) → AreDaysOut spans outs → later < outs.count → outs.first + later < spans.outs
out_within spans outs later h lt = let w = h.within in omega (arith, w, lt)

-- there are 31 days out at most
pub few_outs : (q : Request) (spans : Spans) → HasCells q spans → spans.outs ≤ 31
few_outs q spans h = few q.slices h.fit
  where
    few : (slices : List Slice) → spans_fit spans slices ≡ true → spans.outs ≤ 31
    few [] fit = absurd (cc)
    few (s ∷ []) fit = absurd (cc)
    few (s ∷ t ∷ []) fit =
        let out = and_parts (span_fits spans.outs s) _ fit in
        let days = and_parts (within 1 31 spans.outs) _ out.0 in
        leb-true _ _ (and_parts (nat_le 1 spans.outs) _ days.0).1
    few (s ∷ t ∷ u ∷ more) fit = absurd (cc)
