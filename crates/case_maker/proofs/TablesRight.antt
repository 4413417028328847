-- The tables of a made case have no fault: no place comes twice, each flight goes between two places that are known, is of one day, arrives after it
-- departs, and has a number of its own; and no seat row comes twice.
use Rattle.std.proofs.Common.{◌≡◌, ◌≢◌, ◌⊎◌, ◌≤◌, ◌<◌, ◌+◌, ◌*◌, ◌/◌, ◌%◌, ◌∙◌, ℕ, ℤ, pos, ◌+ℤ◌, ◌≤ℤ◌, ◌<ℤ◌, zero, suc, Bool, true, false, cond, List, [], ◌∷◌, ◌++◌, length, length-append, map, slice_index, sum_by, refl, sym, ap, subst, inl, inr, arith}
use Rattle.std.proofs.lemmas.Int.{ints}
use Rattle.std.proofs.Math.Nat.{suc-mul}
use Rattle.std.proofs.lemmas.List.Sums.{sum_by-cons}
use Rattle.case_maker.specs.Names.{away, back_date, home, hub, out_date}
use Rattle.fare_law.specs.declared.filings.SeatKey.{SeatKey}
use Rattle.fare_law.specs.declared.names.Place.{Place}
use Rattle.fare_law.specs.declared.rows.FlightRow.{FlightRow}
use Rattle.fare_law.specs.declared.rows.PlaceRow.{PlaceRow}
use Rattle.fare_law.specs.declared.rows.SeatRow.{SeatRow}
use Rattle.fare_law.specs.Book.{row_key}
use Rattle.fare_law.specs.Flights.{instant}
use Rattle.fare_law.specs.Lists.{Each, IsIn, Matched}
use Rattle.law_lemmas.proofs.EachOne.{each_in}
use Rattle.law_lemmas.proofs.Members.{in_middle}
use Rattle.law_lemmas.proofs.Pairs.{matched_from_left, matched_from_right, matched_long}
use Rattle.law_lemmas.proofs.Names.{place_whole}
use Rattle.schedule_book.specs.declared.faults.SchedFault.{SchedFault}
use Rattle.schedule_book.specs.declared.faults.SchedFault.TheVariants.{ArrivesBefore, BadPeriod, Mem, PlaceTwice, SamePlace, TooMany, Twice, UnknownPlace}
use Rattle.schedule_book.specs.Days.{named_days, named_of, names}
use Rattle.schedule_book.specs.Faults.{Fault, HasFault, IsKnown, PlacesDiffer, RowsRight}
use Rattle.seat_classes.specs.Given.{FirstRepeat}
use Rattle.case_maker.specs.Lines.{Leg, hub_legs, legs, place_names}
use Rattle.case_maker.specs.Sections.{IsFlightOf, IsPlaceOf, IsSeatsOf}
use Rattle.case_maker.proofs.Apart.{Apart, all_apart, in_below, none_before}
use Rattle.case_maker.proofs.FaresMade.{home_away, home_hub}
use Rattle.case_maker.proofs.LegsNamed.{each_below, many_below}

-- ---- names

hubs_differ : (i j : ℕ) → i < j → j < 100 → hub i ≢ hub j
hubs_differ i j less small e =
    let tens : 65 + i / 26 ≡ 65 + j / 26 = ap (λ xs. slice_index xs 1) e in
    let ones : 65 + i % 26 ≡ 65 + j % 26 = ap (λ xs. slice_index xs 2) e in
    omega (arith, tens, ones, less)

away_hub : (i : ℕ) → away ≢ hub i
away_hub i e = omega (arith, ap (λ xs. slice_index xs 0) e)

abbrev hub_places : ℕ → List (List ℕ)
hub_places i = hub i ∷ []

abbrev itself : List ℕ → List ℕ
itself name = name

places_apart : (size : ℕ) → size ≤ 100 → Apart itself (place_names size)
places_apart size small = (
  (home_away, each_below (λ y. home ≢ y) hub_places size (λ i h. (home_hub i, tt))),
  (
    each_below (λ y. away ≢ y) hub_places size (λ i h. (away_hub i, tt)),
    all_apart itself hub_places size (λ i h. (tt, tt)) (λ i j less h. ((hubs_differ i j less (omega (arith, h, small)), tt), tt)),
  ),
)

abbrev number_of : Leg → ℕ
number_of leg = leg.number

other : (a b : ℕ) → a < b → a ≢ b
other a b less e = omega (arith, less, e)

hub_numbers : (i j : ℕ) → i < j → j < 100 → Each (λ (x : Leg). Each (λ (y : Leg). number_of x ≢ number_of y) (hub_legs j)) (hub_legs i)
hub_numbers i j less small = (
  (near 1000 1000 (omega arith), (near 1000 2000 (omega arith), (near 1000 3000 (omega arith), (near 1000 4000 (omega arith), tt)))),
  (
    (far 2000 1000 (omega arith), (near 2000 2000 (omega arith), (near 2000 3000 (omega arith), (near 2000 4000 (omega arith), tt)))),
    (
      (far 3000 1000 (omega arith), (far 3000 2000 (omega arith), (near 3000 3000 (omega arith), (near 3000 4000 (omega arith), tt)))),
      ((far 4000 1000 (omega arith), (far 4000 2000 (omega arith), (far 4000 3000 (omega arith), (near 4000 4000 (omega arith), tt)))), tt),
    ),
  ),
)
  where
    near : (a b : ℕ) → a ≤ b → a + i ≢ b + j
    near a b h e = omega (arith, h, e, less)

    far : (a b : ℕ) → b + 1000 ≤ a → a + i ≢ b + j
    far a b h e = omega (arith, h, e, small)

hub_own : (i : ℕ) → i < 100 → Apart number_of (hub_legs i)
hub_own i small =
    ((apart 1000 2000 (omega arith), (apart 1000 3000 (omega arith), (apart 1000 4000 (omega arith), tt))), ((apart 2000 3000 (omega arith), (apart 2000 4000 (omega arith), tt)), ((apart 3000 4000 (omega arith), tt), (tt, tt))))
  where
    apart : (a b : ℕ) → a < b → a + i ≢ b + i
    apart a b h e = omega (arith, h, e)

legs_apart : (size : ℕ) → size ≤ 100 → Apart number_of (legs size)
legs_apart size small = (
  (other 1 2 (omega arith), each_below (λ (y : Leg). 1 ≢ number_of y) hub_legs size (λ i h. (low 1 1000 i (omega arith), (low 1 2000 i (omega arith), (low 1 3000 i (omega arith), (low 1 4000 i (omega arith), tt)))))),
  (
    each_below (λ (y : Leg). 2 ≢ number_of y) hub_legs size (λ i h. (low 2 1000 i (omega arith), (low 2 2000 i (omega arith), (low 2 3000 i (omega arith), (low 2 4000 i (omega arith), tt))))),
    all_apart number_of hub_legs size (λ i h. hub_own i (omega (arith, h, small))) (λ i j less h. hub_numbers i j less (omega (arith, h, small))),
  ),
)
  where
    low : (a b i : ℕ) → a < b → a ≢ b + i
    low a b i h e = omega (arith, h, e)

-- ---- flights between known places

-- the flight goes from one known place to another
pub record IsBetween (size : ℕ) (leg : Leg) : Type 0 where
  pub from : IsIn leg.from (place_names size)
  pub to : IsIn leg.to (place_names size)
  pub apart : leg.from ≢ leg.to

between : (size number : ℕ) (from to date : List ℕ) → IsIn from (place_names size) → IsIn to (place_names size) → from ≢ to → IsBetween size (record { number = number; from = from; to = to; date = date })
between size number from to date f t a = record { from = f; to = t; apart = a }

legs_between : (size : ℕ) → Each (IsBetween size) (legs size)
legs_between size = (
  between size 1 home away out_date at_home at_away home_away,
  (
    between size 2 away home back_date at_away at_home (λ e. home_away (sym e)),
    each_below (IsBetween size) hub_legs size (λ i h. (
      between size (1000 + i) home (hub i) out_date at_home (at_hub i h) (home_hub i),
      (
        between size (2000 + i) (hub i) away out_date (at_hub i h) at_away (λ e. away_hub i (sym e)),
        (between size (3000 + i) away (hub i) back_date at_away (at_hub i h) (away_hub i), (between size (4000 + i) (hub i) home back_date (at_hub i h) at_home (λ e. home_hub i (sym e)), tt)),
      ),
    )),
  ),
)
  where
    at_home : IsIn home (place_names size)
    at_home = inl refl

    at_away : IsIn away (place_names size)
    at_away = inr (inl refl)

    at_hub : (i : ℕ) → i < size → IsIn (hub i) (place_names size)
    at_hub i h = inr (inr (in_below hub_places size i (hub i) h (inl refl)))

is_known : (size : ℕ) (places : List PlaceRow) (place : Place) (name : List ℕ) → Matched IsPlaceOf (place_names size) places → IsIn name (place_names size) → place.0 ≡ name → IsKnown place places
is_known size places place name m i e = let h = matched_from_left IsPlaceOf (place_names size) places name m i in (h.0, h.1, place_whole h.0.place place (h.2 ∙ sym e))

-- ---- places

pub places_differ : (size : ℕ) (places : List PlaceRow) → size ≤ 100 → Matched IsPlaceOf (place_names size) places → PlacesDiffer places
places_differ size places small m before row after e (earlier, i, same) =
    none_before itself (λ (r : PlaceRow). r.place.0) IsPlaceOf (λ name r is. is) (place_names size) places before after row earlier (places_apart size small) m e i (ap (λ p. p.0) same)

-- ---- one row

named_few : (row : FlightRow) (n : ℕ) → named_of row n ≤ n
named_few row zero = omega arith
named_few row (suc n) = let k = named_few row n in let o = one (names row (row.first +ℤ pos n)) in omega (arith, k, o)
  where
    one : (b : Bool) → cond b 1 0 ≤ 1
    one true = omega arith
    one false = omega arith

days_few : (rows : List FlightRow) → sum_by named_days rows ≤ length rows * 366
days_few [] = omega arith
days_few (row ∷ rows) = let k = days_few rows in let o = named_few row 366 in omega (arith, k, o, sum_by-cons named_days row rows, suc-mul (length rows) 366)

not_before : (day : ℤ) → day <ℤ day → ⊥
not_before day h = omega (arith, ints, h)

not_after_year : (day : ℤ) → (day +ℤ pos 365) <ℤ day → ⊥
not_after_year day h = omega (arith, ints, h)

in_time : (day : ℤ) (dep arr : ℕ) → dep < arr → instant (day +ℤ pos 0) arr (pos 0) ≤ℤ instant day dep (pos 0) → ⊥
in_time day dep arr early h = omega (arith, ints, early, h)

-- a row is of a flight between places
pub record IsOfLeg (size : ℕ) (row : FlightRow) : Type 0 where
  pub leg : Leg
  pub of : IsFlightOf leg row
  pub goes : IsBetween size leg

module _ (size : ℕ) (places : List PlaceRow) (rows : List FlightRow) (small : size ≤ 100) (m : Matched IsPlaceOf (place_names size) places) (f : Matched IsFlightOf (legs size) rows) where
  of_leg : (row : FlightRow) → IsIn row rows → IsOfLeg size row
  of_leg row i = let h = matched_from_right IsFlightOf (legs size) rows row f i in record { leg = h.0; of = h.2; goes = each_in (IsBetween size) (legs size) h.0 (legs_between size) h.1 }

  many_rows : length rows ≤ 402
  many_rows =
      omega (arith, small, matched_long IsFlightOf (legs size) rows f, many_below hub_legs 4 size (λ i. refl))

  late : (row : FlightRow) → IsOfLeg size row → instant (row.first +ℤ row.shift) row.arr row.arr_offset ≤ℤ instant row.first row.dep row.dep_offset → ⊥
  late row o h =
      in_time row.first row.dep row.arr o.of.in_time
      (subst (λ s. instant (row.first +ℤ s) row.arr (pos 0) ≤ℤ instant row.first row.dep (pos 0)) o.of.shift
      (subst (λ x. instant (row.first +ℤ row.shift) row.arr x ≤ℤ instant row.first row.dep (pos 0)) o.of.arr_offset
      (subst (λ x. instant (row.first +ℤ row.shift) row.arr row.arr_offset ≤ℤ instant row.first row.dep x) o.of.dep_offset h)))

  long : (row : FlightRow) → IsOfLeg size row → (row.last <ℤ row.first) ⊎ ((row.first +ℤ pos 365) <ℤ row.last) → ⊥
  long row o (inl h) = not_before row.first (subst (λ d. d <ℤ row.first) o.of.last h)
  long row o (inr h) = not_after_year row.first (subst (λ d. (row.first +ℤ pos 365) <ℤ d) o.of.last h)

  pub row_right : (before after : List FlightRow) (row : FlightRow) → rows ≡ before ++ row ∷ after → IsOfLeg size row → (fault : SchedFault) → HasFault places before row fault → ⊥
  row_right before after row e o (PlaceTwice line) h = h
  row_right before after row e o (UnknownPlace line) (at, inl h) = h (is_known size places row.from o.leg.from m o.goes.from o.of.from)
  row_right before after row e o (UnknownPlace line) (at, inr h) = h (is_known size places row.to o.leg.to m o.goes.to o.of.to)
  row_right before after row e o (SamePlace line) (at, h) = o.goes.apart (sym o.of.from ∙ ap (λ p. p.0) h ∙ o.of.to)
  row_right before after row e o (BadPeriod line) (at, h) = long row o h
  row_right before after row e o (ArrivesBefore line) (at, h) = late row o h
  row_right before after row e o (Twice line) (at, (earlier, x, y, i, d, g, same)) =
      none_before number_of (λ (r : FlightRow). r.number) IsFlightOf (λ leg r is. is.number) (legs size) rows before after row earlier (legs_apart size small) f e i (sym d.number ∙ same.number ∙ g.number)
  row_right before after row e o (TooMany line) (at, h) =
      let few = days_few (before ++ row ∷ []) in
      omega (arith, h, few, many_rows, ap length e, length-append before (row ∷ after), length-append before (row ∷ []))
  row_right before after row e o Mem h = h

  pub rows_right : RowsRight places rows
  rows_right before row after e fault h = row_right before after row e (of_leg row (subst (λ rs. IsIn row rs) (sym e) (in_middle before row after))) fault h

  -- the tables have no fault
  pub tables_right : (fault : SchedFault) → Fault places rows fault → ⊥
  tables_right fault (inl (before, row, after, e, differ, known, is)) = places_differ size places small m before row after e known
  tables_right fault (inr (differ, (before, row, after, e, right, has, least))) = rows_right before row after e fault has

-- ---- seats

in_mapped : {X Y : Type 0} (g : X → Y) (y : Y) (xs : List X) → IsIn y (map g xs) → (x : X) × IsIn x xs × (y ≡ g x)
in_mapped g y [] i = absurd i
in_mapped g y (x ∷ xs) (inl e) = (x, inl refl, e)
in_mapped g y (x ∷ xs) (inr i) = let h = in_mapped g y xs i in (h.0, inr h.1, h.2)

pub seats_right : (size : ℕ) (rows : List SeatRow) (line : ℕ) → size ≤ 100 → Matched IsSeatsOf (legs size) rows → FirstRepeat rows line → ⊥
seats_right size rows line small m r =
    let h = in_mapped row_key (row_key r.row) r.before r.repeated in
    none_before number_of (λ (s : SeatRow). s.number) IsSeatsOf (λ leg s is. is.number) (legs size) rows r.before r.after r.row h.0 (legs_apart size small) m r.split h.1 (ap (λ (k : SeatKey). k.number) (sym h.2))
