-- The first fault of a row by itself.
use Rattle.std.proofs.Common.{◌≡◌, ◌⊎◌, ℕ, suc, pos, ◌≤◌, ◌+ℤ◌, ◌≤ℤ◌, ◌<ℤ◌, List, [], refl, inl, inr, arith}
use Rattle.std.proofs.lemmas.Int.{ints, by_lt_z}
use Rattle.std.proofs.lemmas.Bool.{cases_lt}
use Rattle.fare_law.specs.declared.rows.FlightRow.{FlightRow}
use Rattle.fare_law.specs.declared.rows.PlaceRow.{PlaceRow}
use Rattle.fare_law.specs.Flights.{instant}
use Rattle.schedule_book.specs.declared.faults.SchedFault.{SchedFault}
use Rattle.schedule_book.specs.declared.faults.SchedFault.TheVariants.{PlaceTwice, UnknownPlace, SamePlace, BadPeriod, ArrivesBefore, Twice, TooMany, Mem}
use Rattle.schedule_book.specs.Faults.{IsKnown, HasFault, NoOwnFault, fault_number}

abbrev pub HasPlaces : List PlaceRow → FlightRow → Type 0
HasPlaces places row = IsKnown row.from places × IsKnown row.to places

abbrev pub HasPeriod : FlightRow → Type 0
HasPeriod row = (row.first ≤ℤ row.last) × (row.last ≤ℤ (row.first +ℤ pos 365))

abbrev pub ArrivesLater : FlightRow → Type 0
ArrivesLater row = instant row.first row.dep row.dep_offset <ℤ instant (row.first +ℤ row.shift) row.arr row.arr_offset

-- the row has none of the faults below this number
pub record Passed (places : List PlaceRow) (row : FlightRow) (n : ℕ) : Type 0 where
  pub known : 3 ≤ n → HasPlaces places row
  pub goes : 4 ≤ n → row.from ≡ row.to → ⊥
  pub period : 5 ≤ n → HasPeriod row
  pub later : 6 ≤ n → ArrivesLater row

decide : (n k : ℕ) → (suc k ≤ n → ⊥) → n ≤ k
decide n k h = elim (cases_lt k n) [ inl lt ↦ absurd (h (omega arith)) | inr le ↦ le ]

pub at_least : (places : List PlaceRow) (row : FlightRow) (n : ℕ) → n ≤ 6 → Passed places row n → (before : List FlightRow) (other : SchedFault) → HasFault places before row other → n ≤ fault_number other
at_least places row n six p before (PlaceTwice line) h = absurd h
at_least places row n six p before (UnknownPlace line) h = decide n 2 (λ le. none (p.known le) h.1)
  where
    none : HasPlaces places row → ((IsKnown row.from places → ⊥) ⊎ (IsKnown row.to places → ⊥)) → ⊥
    none k (inl f) = f k.0
    none k (inr f) = f k.1
at_least places row n six p before (SamePlace line) h = decide n 3 (λ le. p.goes le h.1)
at_least places row n six p before (BadPeriod line) h = decide n 4 (λ le. none (p.period le) h.1)
  where
    none : HasPeriod row → ((row.last <ℤ row.first) ⊎ ((row.first +ℤ pos 365) <ℤ row.last)) → ⊥
    none k (inl f) = omega (arith, ints)
    none k (inr f) = omega (arith, ints)
at_least places row n six p before (ArrivesBefore line) h = decide n 5 (λ le. none (p.later le) h.1)
  where
    none : ArrivesLater row → instant (row.first +ℤ row.shift) row.arr row.arr_offset ≤ℤ instant row.first row.dep row.dep_offset → ⊥
    none a b = omega (arith, ints)
at_least places row n six p before (Twice line) h = omega arith
at_least places row n six p before (TooMany line) h = omega arith
at_least places row n six p before Mem h = absurd h

pub bad_period : (row : FlightRow) → (HasPeriod row → ⊥) → (row.last <ℤ row.first) ⊎ ((row.first +ℤ pos 365) <ℤ row.last)
bad_period row n = by_lt_z row.last row.first (λ lt. inl lt) (λ le. by_lt_z (row.first +ℤ pos 365) row.last (λ lt. inr lt) (λ e. absurd (n (le, e))))

pub not_later : (row : FlightRow) → (ArrivesLater row → ⊥) → instant (row.first +ℤ row.shift) row.arr row.arr_offset ≤ℤ instant row.first row.dep row.dep_offset
not_later row n = by_lt_z (instant row.first row.dep row.dep_offset) (instant (row.first +ℤ row.shift) row.arr row.arr_offset) (λ lt. absurd (n lt)) (λ le. le)

-- a row without a fault of its own has a period
pub own_period : (places : List PlaceRow) (row : FlightRow) → NoOwnFault places row → HasPeriod row
own_period places row h = (
  by_lt_z row.last row.first (λ lt. absurd (low (h [] (BadPeriod row.line) (refl, inl lt)))) (λ le. le),
  by_lt_z (row.first +ℤ pos 365) row.last (λ lt. absurd (low (h [] (BadPeriod row.line) (refl, inr lt)))) (λ le. le),
)
  where
    low : 6 ≤ 4 → ⊥
    low l = omega arith
