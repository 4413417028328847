-- From the expansion of rows to the flights of a timetable.
use Rattle.std.proofs.Common.{◌≡◌, ℕ, zero, suc, ◌<◌, List, [], ◌∷◌, ◌++◌, length, take, drop, get_or, append-nil, sym, ap, ◌∙◌, inl, inr, arith}
use Rattle.std.specs.List.{Contains}
use Rattle.std.specs.List.Sorted.{IsPermutation}
use Rattle.std.proofs.lemmas.List.Sorted.{Contains-permutation, IsPermutation-sym, length_permutation}
use Rattle.std.proofs.lemmas.List.{drop_all, take_all}
use Rattle.fare_law.specs.declared.flights.Flight.{Flight}
use Rattle.fare_law.specs.declared.rows.FlightRow.{FlightRow}
use Rattle.fare_law.specs.declared.rows.PlaceRow.{PlaceRow}
use Rattle.fare_law.specs.Flights.{AreFlights, Earlier}
use Rattle.fare_law.specs.Lists.{EachPair, IsIn}
use Rattle.schedule_book.specs.declared.faults.SchedFault.{SchedFault}
use Rattle.schedule_book.specs.declared.faults.SchedFault.TheVariants.{PlaceTwice, UnknownPlace, SamePlace, BadPeriod, ArrivesBefore, Twice, TooMany, Mem}
use Rattle.schedule_book.specs.Expansions.{Expands}
use Rattle.schedule_book.specs.Faults.{HasCause, PlacesDiffer, RowCause}
use Rattle.schedule_book.proofs.Numbers.{same}

in_contains : (x : Flight) (xs : List Flight) → IsIn x xs → Contains xs x
in_contains x [] i = absurd i
in_contains x (y ∷ xs) (inl e) = (0, omega arith, sym e)
in_contains x (y ∷ xs) (inr i) = let r = in_contains x xs i in (suc r.0, omega (arith, r.1), r.2)

contains_in : (x : Flight) (xs : List Flight) (k : ℕ) → k < length xs → get_or xs k x ≡ x → IsIn x xs
contains_in x [] k lt e = absurd (omega arith)
contains_in x (y ∷ xs) zero lt e = inl (sym e)
contains_in x (y ∷ xs) (suc k) lt e = inr (contains_in x xs k (omega arith) e)

in_permutation : (x : Flight) (xs ys : List Flight) → IsPermutation xs ys → IsIn x xs → IsIn x ys
in_permutation x xs ys p i = let c = Contains-permutation xs ys x p (in_contains x xs i) in contains_in x ys c.0 c.1 c.2

pub flights_are : (rows : List FlightRow) (old new : List Flight) → Expands same rows old → EachPair Earlier new → IsPermutation old new → AreFlights rows new
flights_are rows old new e o p = record {
  in_order = o;
  are = λ f. (λ i. (e.are f).0 (in_permutation f new old (IsPermutation-sym old new p) i), λ h. in_permutation f old new p ((e.are f).1 h));
}

pub has_cause : (places : List PlaceRow) (rows : List FlightRow) → PlacesDiffer places → (fault : SchedFault) → RowCause places rows fault → HasCause places rows fault
has_cause places rows d (PlaceTwice line) h = absurd h
has_cause places rows d (UnknownPlace line) h = inr (d, h)
has_cause places rows d (SamePlace line) h = inr (d, h)
has_cause places rows d (BadPeriod line) h = inr (d, h)
has_cause places rows d (ArrivesBefore line) h = inr (d, h)
has_cause places rows d (Twice line) h = inr (d, h)
has_cause places rows d (TooMany line) h = inr (d, h)
has_cause places rows d Mem h = tt

-- what a vector has after its slice was written
pub written : (n : ℕ) (old new : List Flight) → n ≡ length old → length new ≡ length old → take n (new ++ drop (length new) old) ≡ new
written n old new e l =
    ap (λ xs. take n (new ++ xs)) (drop_all (length new) old (omega (arith, l))) ∙ ap (take n) (append-nil new) ∙ take_all n new (omega (arith, e, l))

pub sorted_length : (old new : List Flight) → IsPermutation old new → length new ≡ length old
sorted_length old new p = length_permutation old new p
