-- A window of several days is the windows of its days.
use Rattle.std.proofs.Common.{◌≡◌, ◌≢◌, ℕ, zero, suc, ℤ, pos, ◌<◌, ◌+ℤ◌, ◌≤ℤ◌, ◌<ℤ◌, int_eq, Bool, true, false, List, [], ◌∷◌, length, refl, sym, subst, arith}
use Rattle.std.proofs.lemmas.Int.{ints}
use Rattle.std.proofs.lemmas.Bool.Decides.{Decides-int_eq}
use Rattle.fare_law.specs.Book.{Book}
use Rattle.fare_law.specs.Journey.{FliesFrom, FliesSlice, Itinerary}
use Rattle.fare_law.specs.Lawful.{Lawful}
use Rattle.fare_law.specs.Parts.{IsPart, Part, StandsFor}
use Rattle.fare_law.specs.declared.tickets.Component.{Component}
use Rattle.fare_law.specs.Lists.{Matched, OnLast}
use Rattle.fare_law.specs.Best.{Costs}
use Rattle.fare_law.specs.declared.flights.Flight.{Flight}
use Rattle.fare_law.specs.declared.requests.Request.{Request}
use Rattle.fare_law.specs.declared.requests.Slice.{Slice}
use Rattle.fare_law.specs.declared.tickets.Ticket.{Ticket}
use Rattle.fare_calendar.specs.Cells.{CellHas, CellsLeast, LeastPrice, in_days, over_days, two_slices}
use Rattle.std.specs.Prelude.{Some}
use Rattle.law_lemmas.proofs.Ends.{on_last}

-- the day of a window on which something happens
record OnDay (s : Slice) (days : ℕ) (P : Slice → Type 0) : Type 0 where
  later : ℕ
  within : later < days
  holds : P (in_days s later 1)

-- a number of days after the first, below n, at which the day is
abbrev IsAfter : ℤ → ℤ → ℕ → Type 0
IsAfter first day n = (i : ℕ) × (i < n) × ((first +ℤ pos i) ≤ℤ day) × (day <ℤ ((first +ℤ pos i) +ℤ pos 1))

day_by : (first day : ℤ) (n : ℕ) → day <ℤ (first +ℤ pos (suc n)) → (day <ℤ (first +ℤ pos n) → IsAfter first day n) → (b : Bool) → int_eq day (first +ℤ pos n) ≡ b → IsAfter first day (suc n)
day_by first day n hi below true e = let h = (Decides-int_eq day (first +ℤ pos n)).0 e in (n, omega arith, omega (arith, ints, h), omega (arith, ints, h))
day_by first day n hi below false e =
    let ne : day ≢ (first +ℤ pos n) = λ h. let t = (Decides-int_eq day (first +ℤ pos n)).1 h in absurd (cc) in
    let more = below (omega (arith, ints, hi, ne)) in (more.0, omega (arith, more.1), more.2, more.3)

day_of : (first day : ℤ) (n : ℕ) → first ≤ℤ day → day <ℤ (first +ℤ pos n) → IsAfter first day n
day_of first day zero lo hi = absurd (omega (arith, ints, lo, hi))
day_of first day (suc n) lo hi = day_by first day n hi (day_of first day n lo) (int_eq day (first +ℤ pos n)) refl

-- the flights of a slice depart on one day of its window
on_a_day : (b : Book) (s : Slice) (n : ℕ) (fs : List Flight) → FliesSlice b (record s { days = n }) fs → OnDay s n (λ d. FliesSlice b d fs)
on_a_day b s n [] h = absurd h.window
on_a_day b s n (f ∷ fs) h =
    let day = day_of s.first f.day n h.window.0 h.window.1 in record {
      later = day.0;
      within = day.1;
      holds = record { few = h.few; begins = h.begins; ends = h.ends; joined = h.joined; stops = h.stops; apart = h.apart; window = (day.2, day.3) };
    }

in_the_window : (b : Book) (s : Slice) (n i : ℕ) (fs : List Flight) → i < n → FliesSlice b (in_days s i 1) fs → FliesSlice b (record s { days = n }) fs
in_the_window b s n i [] within h = absurd h.window
in_the_window b s n i (f ∷ fs) within h = record {
  few = h.few;
  begins = h.begins;
  ends = h.ends;
  joined = h.joined;
  stops = h.stops;
  apart = h.apart;
  window = (omega (arith, ints, h.window.0), omega (arith, ints, h.window.1, within));
}

-- what holds of the last at some number holds at some number of the last
last_at : {X : Type 0} (Q : ℕ → Type 0) (P : ℕ → X → Type 0) (xs : List X) → OnLast (λ x. (i : ℕ) × Q i × P i x) xs → (i : ℕ) × Q i × OnLast (P i) xs
last_at Q P [] h = absurd h
last_at Q P (x ∷ []) h = h
last_at Q P (x ∷ y ∷ ys) h = last_at Q P (y ∷ ys) h

-- the last slice, after an arrival
last_slice : (b : Book) (arrival : _) (t : Slice) (n : ℕ) (fs : List Flight) → FliesFrom b arrival (record t { days = n } ∷ []) fs
    → (j : ℕ) × (j < n) × FliesFrom b arrival (in_days t j 1 ∷ []) fs
last_slice b arrival t n fs h =
    let day = on_a_day b t n h.0 h.3 in (day.later, day.within, (h.0, h.1, h.2, day.holds, h.4, h.5))

slice_back : (b : Book) (arrival : _) (t : Slice) (n j : ℕ) (fs : List Flight) → j < n → FliesFrom b arrival (in_days t j 1 ∷ []) fs → FliesFrom b arrival (record t { days = n } ∷ []) fs
slice_back b arrival t n j fs within h = (h.0, h.1, h.2, in_the_window b t n j h.0 within h.3, h.4, h.5)

pub journeys : (b : Book) (slices : List Slice) (outs backs : ℕ) (fs : List Flight) → length slices ≡ 2
    → Itinerary b (two_slices (λ s. record s { days = outs }) (λ s. record s { days = backs }) slices) fs
    → (i : ℕ) × (j : ℕ) × (i < outs) × (j < backs) × Itinerary b (two_slices (λ s. in_days s i 1) (λ s. in_days s j 1) slices) fs
journeys b [] outs backs fs two h = absurd (omega (arith, two))
journeys b (s ∷ []) outs backs fs two h = absurd (omega (arith, two))
journeys b (s ∷ t ∷ []) outs backs fs two h =
    let day = on_a_day b s outs h.0 h.3 in
    let back = last_at (λ j. j < backs) (λ j f. FliesFrom b (Some f.arr) (in_days t j 1 ∷ []) h.1) h.0
    (on_last _ _ (λ f k. last_slice b (Some f.arr) t backs h.1 k) h.0 h.5) in
    (day.later, back.0, day.within, back.1, (h.0, h.1, h.2, day.holds, h.4, back.2))
journeys b (s ∷ t ∷ u ∷ more) outs backs fs two h = absurd (omega (arith, two))

pub journeys_back : (b : Book) (slices : List Slice) (outs backs i j : ℕ) (fs : List Flight) → length slices ≡ 2 → i < outs → j < backs
    → Itinerary b (two_slices (λ s. in_days s i 1) (λ s. in_days s j 1) slices) fs
    → Itinerary b (two_slices (λ s. record s { days = outs }) (λ s. record s { days = backs }) slices) fs
journeys_back b [] outs backs i j fs two oi bj h = absurd (omega (arith, two))
journeys_back b (s ∷ []) outs backs i j fs two oi bj h = absurd (omega (arith, two))
journeys_back b (s ∷ t ∷ []) outs backs i j fs two oi bj h =
    (h.0, h.1, h.2, in_the_window b s outs i h.0 oi h.3, h.4, on_last _ _ (λ f k. slice_back b (Some f.arr) t backs j h.1 bj k) h.0 h.5)
journeys_back b (s ∷ t ∷ u ∷ more) outs backs i j fs two oi bj h = absurd (omega (arith, two))

-- only the day of sale of a request is read of the parts of a ticket and of its price
parts_same : (b : Book) (q r : Request) → r.sale ≡ q.sale → (cs : List Component) (ps : List Part) → Matched (IsPart b q) cs ps → Matched (IsPart b r) cs ps
parts_same b q r e [] [] h = tt
parts_same b q r e [] (p ∷ ps) h = absurd h
parts_same b q r e (c ∷ cs) [] h = absurd h
parts_same b q r e (c ∷ cs) (p ∷ ps) h =
    (record { flights = h.0.flights; stands = subst (λ (sale : ℤ). StandsFor b sale c.fare p.flights p.piece) (sym e) h.0.stands; unit = h.0.unit }, parts_same b q r e cs ps h.1)

costs_same : (b : Book) (q r : Request) (t : Ticket) (price : ℕ) → r.sale ≡ q.sale → Costs t b q price → Costs t b r price
costs_same b q r t price e h = (h.0, parts_same b q r e t.components h.0 h.1, h.2)

pub covered : (t : Ticket) (b : Book) (q : Request) (outs backs : ℕ) → length q.slices ≡ 2 → Lawful t b (over_days q outs backs) → CellHas b q outs backs t
covered t b q outs backs two h =
    let parts = h.2 in
    let found = journeys b q.slices outs backs _ two parts.journey in record {
      out = found.0;
      back = found.1;
      out_within = found.2;
      back_within = found.3;
      lawful = (h.0, parts_same b _ _ refl t.components h.0 h.1, record { journey = found.4; components = parts.components; numbered = parts.numbered; units = parts.units; end_on_end = parts.end_on_end; straddling = parts.straddling }, h.3);
    }

pub covers : (t : Ticket) (b : Book) (q : Request) (outs backs : ℕ) → length q.slices ≡ 2 → CellHas b q outs backs t → Lawful t b (over_days q outs backs)
covers t b q outs backs two c =
    let h = c.lawful in let parts = h.2 in
    (h.0, parts_same b _ _ refl t.components h.0 h.1, record { journey = journeys_back b q.slices outs backs c.out c.back _ two c.out_within c.back_within parts.journey; components = parts.components; numbered = parts.numbered; units = parts.units; end_on_end = parts.end_on_end; straddling = parts.straddling }, h.3)

pub least_found : (b : Book) (q : Request) (outs backs price : ℕ) → length q.slices ≡ 2 → LeastPrice b (over_days q outs backs) price → CellsLeast b q outs backs price
least_found b q outs backs price two h =
    let c = covered h.ticket b q outs backs two h.lawful in record {
      out = c.out;
      back = c.back;
      out_within = c.out_within;
      back_within = c.back_within;
      has = record {
        ticket = h.ticket;
        lawful = c.lawful;
        costs = costs_same b _ _ h.ticket price refl h.costs;
        least = λ t other l k. h.least t other (covers t b q outs backs two (record { out = c.out; back = c.back; out_within = c.out_within; back_within = c.back_within; lawful = l })) (costs_same b _ _ t other refl k);
      };
      least = λ i j t other oi bj l k. h.least t other (covers t b q outs backs two (record { out = i; back = j; out_within = oi; back_within = bj; lawful = l })) (costs_same b _ _ t other refl k);
    }

pub least_over : (b : Book) (q : Request) (outs backs price : ℕ) → length q.slices ≡ 2 → CellsLeast b q outs backs price → LeastPrice b (over_days q outs backs) price
least_over b q outs backs price two c = record {
  ticket = c.has.ticket;
  lawful = covers c.has.ticket b q outs backs two (record { out = c.out; back = c.back; out_within = c.out_within; back_within = c.back_within; lawful = c.has.lawful });
  costs = costs_same b _ _ c.has.ticket price refl c.has.costs;
  least = λ t other l k. let found = covered t b q outs backs two l in c.least found.out found.back t other found.out_within found.back_within found.lawful (costs_same b _ _ t other refl k);
}
