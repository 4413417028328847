-- A timetable has one fault at most, and a right one has none.
use Rattle.std.proofs.Common.{◌≡◌, ℕ, eqb, cond, List, sym, ap, subst, ◌∙◌, inl, inr}
use Rattle.fare_law.specs.declared.rows.FlightRow.{FlightRow}
use Rattle.fare_law.specs.declared.rows.PlaceRow.{PlaceRow}
use Rattle.schedule_book.specs.declared.faults.SchedFault.{SchedFault}
use Rattle.schedule_book.specs.declared.faults.SchedFault.TheVariants.{PlaceTwice, UnknownPlace, SamePlace, BadPeriod, ArrivesBefore, Twice, TooMany, Mem}
use Rattle.schedule_book.specs.Faults.{Fault, HasFault, PlaceFault, PlacesDiffer, RowFault, RowsRight, fault_number}
use Rattle.schedule_book.proofs.Rows.{splits}
use Rattle.law_lemmas.proofs.Numbers.{both_least}

-- the fault of this number on this line
numbered : ℕ → ℕ → SchedFault
numbered n line =
    cond (eqb n 2) (UnknownPlace line) (cond (eqb n 3) (SamePlace line) (cond (eqb n 4) (BadPeriod line)
    (cond (eqb n 5) (ArrivesBefore line) (cond (eqb n 6) (Twice line) (TooMany line)))))

-- a row's fault is told by its number
told : (places : List PlaceRow) (before : List FlightRow) (row : FlightRow) (fault : SchedFault) → HasFault places before row fault → fault ≡ numbered (fault_number fault) row.line
unfolding numbered
told places before row (PlaceTwice line) h = absurd h
told places before row (UnknownPlace line) h = ap UnknownPlace h.0
told places before row (SamePlace line) h = ap SamePlace h.0
told places before row (BadPeriod line) h = ap BadPeriod h.0
told places before row (ArrivesBefore line) h = ap ArrivesBefore h.0
told places before row (Twice line) h = ap Twice h.0
told places before row (TooMany line) h = ap TooMany h.0
told places before row Mem h = absurd h

place_fault_one : (places : List PlaceRow) (fault other : SchedFault) → PlaceFault places fault → PlaceFault places other → fault ≡ other
place_fault_one places fault other (xs, x, xt, e, d, k, f) (ys, y, yt, e2, d2, k2, f2) = elim (splits xs x xt ys y yt (sym e ∙ e2)) [
  | inl s ↦ f ∙ ap (λ row. PlaceTwice row.line) s.1 ∙ sym f2
  | inr o ↦ elim o [
    | inl s ↦ absurd (d ys y s.0 s.1 k2)
    | inr s ↦ absurd (d2 xs x s.0 s.1 k)
  ]
]

row_fault_one : (places : List PlaceRow) (rows : List FlightRow) (fault other : SchedFault) → RowFault places rows fault → RowFault places rows other → fault ≡ other
row_fault_one places rows fault other (xs, x, xt, e, r, h, least) (ys, y, yt, e2, r2, h2, least2) = elim (splits xs x xt ys y yt (sym e ∙ e2)) [
  | inl s ↦
      let here : HasFault places xs x other = subst (λ row. HasFault places xs row other) (sym s.1) (subst (λ before. HasFault places before y other) (sym s.0) h2) in
      let there : HasFault places ys y fault = subst (λ row. HasFault places ys row fault) s.1 (subst (λ before. HasFault places before x fault) s.0 h) in
      told places xs x fault h ∙ ap (λ n. numbered n x.line) (both_least _ _ (least other here) (least2 fault there)) ∙ sym (told places xs x other here)
  | inr o ↦ elim o [
    | inl s ↦ absurd (r ys y s.0 s.1 other h2)
    | inr s ↦ absurd (r2 xs x s.0 s.1 fault h)
  ]
]

no_place_fault : (places : List PlaceRow) (fault : SchedFault) → PlacesDiffer places → PlaceFault places fault → ⊥
no_place_fault places fault differ (xs, x, xt, e, d, k, f) = differ xs x xt e k

pub one_fault : (places : List PlaceRow) (rows : List FlightRow) (fault other : SchedFault) → Fault places rows fault → Fault places rows other → fault ≡ other
one_fault places rows fault other (inl p) (inl q) = place_fault_one places fault other p q
one_fault places rows fault other (inl p) (inr q) = absurd (no_place_fault places fault q.0 p)
one_fault places rows fault other (inr p) (inl q) = absurd (no_place_fault places other p.0 q)
one_fault places rows fault other (inr p) (inr q) = row_fault_one places rows fault other p.1 q.1

pub right_has_none : (places : List PlaceRow) (rows : List FlightRow) (fault : SchedFault) → PlacesDiffer places → RowsRight places rows → Fault places rows fault → ⊥
right_has_none places rows fault differ right (inl p) = no_place_fault places fault differ p
right_has_none places rows fault differ right (inr (d, (xs, x, xt, e, r, h, least))) = right xs x xt e fault h
