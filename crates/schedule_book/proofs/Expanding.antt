-- The dated flights of rows, row by row, and the first row with a fault.
use Rattle.std.proofs.Common.{◌≡◌, ◌⊎◌, ℕ, ◌+◌, ◌<◌, ◌≤◌, List, [], ◌∷◌, ◌++◌, length, map, sum_by, take, drop, get_or, refl, sym, ap, ap₂, ◌∙◌, subst, inl, inr, arith, length-append}
use Rattle.std.specs.HashSet.{HashSet}
use Rattle.std.specs.List.{IsDistinct, list_any}
use Rattle.std.proofs.lemmas.List.Sums.{sum_by-append, sum_by-cons}
use Rattle.fare_law.specs.declared.flights.Flight.{Flight}
use Rattle.fare_law.specs.declared.rows.FlightRow.{FlightRow}
use Rattle.fare_law.specs.declared.rows.PlaceRow.{PlaceRow}
use Rattle.fare_law.specs.Flights.{Dated}
use Rattle.fare_law.specs.Lists.{IsIn}
use Rattle.schedule_book.specs.declared.faults.SchedFault.{SchedFault}
use Rattle.schedule_book.specs.declared.faults.SchedFault.TheVariants.{PlaceTwice, UnknownPlace, SamePlace, BadPeriod, ArrivesBefore, Twice, TooMany, Mem}
use Rattle.schedule_book.specs.declared.dated.DatedNumber.{DatedNumber}
use Rattle.schedule_book.specs.declared.dated.FlightName.{FlightName}
use Rattle.schedule_book.specs.Days.{named_days}
use Rattle.schedule_book.specs.Expansions.{AddsRow, Expands, RepeatsOne, Seen, number_of}
use Rattle.schedule_book.specs.Faults.{HasFault, IsRepeated, NoOwnFault, OwnFault, RowCause, RowFault, RowsRight, SameDated, fault_number}
use Rattle.fare_law.specs.declared.limits.TheConstants.{MOST_DATED_FLIGHTS}
use Rattle.schedule_book.proofs.Numbers.{same, parts_differ}
use Rattle.schedule_book.proofs.Rows.{split_push}
use Rattle.schedule_book.proofs.SharedNames.{one_name}
use Rattle.law_lemmas.proofs.Lists.{front_read, no_middle, split_is}
use Rattle.law_lemmas.proofs.Members.{in_either, in_left, in_right}

-- the rows so far have no fault, and these are their flights
pub record Expanded (places : List PlaceRow) (rows : List FlightRow) (flights : List Flight) : Type 0 where
  pub expands : Expands same rows flights
  pub right : RowsRight places rows
  pub few : length flights ≤ MOST_DATED_FLIGHTS

same_number : (f g : Flight) → SameDated f g → number_of f ≡ number_of g
same_number f g s = let a = s.carrier in let b = s.number in let x = s.from in let d = s.day in λ i. record { carrier = a i; number = b i; from = x i; day = d i }

number_same : (f g : Flight) → number_of f ≡ number_of g → SameDated f g
number_same f g e = record { carrier = ap (λ x. x.carrier) e; number = ap (λ x. x.number) e; from = ap (λ x. x.from) e; day = ap (λ x. x.day) e }

module _ (places : List PlaceRow) (rows : List FlightRow) (flights : List Flight) (e : Expanded places rows flights) (row : FlightRow) (own : NoOwnFault places row) where
  pub repeated : RepeatsOne row flights → IsRepeated rows row
  repeated (g, dated, (f, i, s)) =
      let o = (e.expands.are f).0 i in
      (o.0, f, g, o.1, o.2, dated, number_same f g s)

  pub twice_least : (other : SchedFault) → HasFault places rows row other → 6 ≤ fault_number other
  twice_least other h = own rows other h

  module _ (new : List Flight) (adds : AddsRow row flights new) (differ : IsDistinct same (map number_of new)) where
    not_repeated : IsRepeated rows row → ⊥
    not_repeated (earlier, f, g, i, df, dg, s) =
        parts_differ flights adds.more (subst (λ xs. IsDistinct same (map number_of xs)) adds.joined differ) f g ((e.expands.are f).1 (earlier, i, df)) ((adds.are g).1 dg) (same_number f g s)

    pub counted : length new ≡ sum_by named_days (rows ++ row ∷ [])
    counted = ap length adds.joined ∙ length-append flights adds.more ∙ ap₂ (λ a b. a + b) e.expands.many adds.many ∙ sym (sum_by-append named_days rows (row ∷ []) ∙ ap (λ n. sum_by named_days rows + n) one)
      where
        one : sum_by named_days (row ∷ []) ≡ named_days row
        one = sum_by-cons named_days row [] ∙ plus (named_days row)
          where
            plus : (n : ℕ) → n + 0 ≡ n
            plus n = omega arith

    pub many_least : (other : SchedFault) → HasFault places rows row other → 7 ≤ fault_number other
    many_least (PlaceTwice line) h = absurd h
    many_least (UnknownPlace line) h = absurd (low (own rows (UnknownPlace line) h))
      where
        low : 6 ≤ 2 → ⊥
        low l = omega arith
    many_least (SamePlace line) h = absurd (low (own rows (SamePlace line) h))
      where
        low : 6 ≤ 3 → ⊥
        low l = omega arith
    many_least (BadPeriod line) h = absurd (low (own rows (BadPeriod line) h))
      where
        low : 6 ≤ 4 → ⊥
        low l = omega arith
    many_least (ArrivesBefore line) h = absurd (low (own rows (ArrivesBefore line) h))
      where
        low : 6 ≤ 5 → ⊥
        low l = omega arith
    many_least (Twice line) h = absurd (not_repeated h.1)
    many_least (TooMany line) h = omega arith
    many_least Mem h = absurd h

    no_fault : length new ≤ MOST_DATED_FLIGHTS → (other : SchedFault) → HasFault places rows row other → ⊥
    no_fault few (PlaceTwice line) h = h
    no_fault few (UnknownPlace line) h = let l = many_least (UnknownPlace line) h in low l
      where
        low : 7 ≤ 2 → ⊥
        low l = omega arith
    no_fault few (SamePlace line) h = let l = many_least (SamePlace line) h in low l
      where
        low : 7 ≤ 3 → ⊥
        low l = omega arith
    no_fault few (BadPeriod line) h = let l = many_least (BadPeriod line) h in low l
      where
        low : 7 ≤ 4 → ⊥
        low l = omega arith
    no_fault few (ArrivesBefore line) h = let l = many_least (ArrivesBefore line) h in low l
      where
        low : 7 ≤ 5 → ⊥
        low l = omega arith
    no_fault few (Twice line) h = not_repeated h.1
    no_fault few (TooMany line) h = omega (arith, h.1, counted)
    no_fault few Mem h = h

    pub expanded_more : length new ≤ MOST_DATED_FLIGHTS → Expanded places (rows ++ row ∷ []) new
    expanded_more few = record {
      expands = record { are = λ f. (forth f, back f); many = counted; differ = differ };
      right = λ before r after q other h. elim (split_push rows row before r after q) [
        | inl s ↦ no_fault few other (subst (λ x. HasFault places rows x other) s.1 (subst (λ x. HasFault places x r other) s.0 h))
        | inr s ↦ e.right before r s.0 s.1 other h
      ];
      few = few;
    }
      where
        forth : (f : Flight) → IsIn f new → (x : FlightRow) × IsIn x (rows ++ row ∷ []) × Dated x f
        forth f i = elim (in_either f flights adds.more (subst (IsIn f) adds.joined i)) [
          | inl l ↦ let o = (e.expands.are f).0 l in (o.0, in_left o.0 rows (row ∷ []) o.1, o.2)
          | inr r ↦ (row, in_right row rows (row ∷ []) (inl refl), (adds.are f).0 r)
        ]

        back : (f : Flight) → (x : FlightRow) × IsIn x (rows ++ row ∷ []) × Dated x f → IsIn f new
        back f (x, i, d) = subst (IsIn f) (sym adds.joined) (elim (in_either x rows (row ∷ []) i) [
          | inl l ↦ in_left f flights adds.more ((e.expands.are f).1 (x, l, d))
          | inr s ↦ elim s [ inl q ↦ in_right f flights adds.more ((adds.are f).1 (subst (λ y. Dated y f) q d)) | inr z ↦ absurd z ]
        ])

none_differ : IsDistinct same []
unfolding IsDistinct
none_differ = tt

pub expanded_empty : (places : List PlaceRow) (flights : List Flight) → flights ≡ [] → Expanded places [] flights
expanded_empty places flights e = subst (Expanded places []) (sym e) (record {
  expands = record { are = λ f. (λ i. absurd i, λ h. absurd h.1); many = refl; differ = none_differ };
  right = λ before r after q other k. no_middle before r after q;
  few = omega arith;
})

pub seen_empty : {S T : Type 0} (shared : HashSet FlightName S) (flights : List Flight) (seen : HashSet DatedNumber T) → flights ≡ [] → seen.keys ≡ [] → Seen same one_name shared flights seen
seen_empty shared flights seen e k = subst (λ fs. Seen same one_name shared fs seen) (sym e) (record { differ = none_differ; same = λ q h. ap (list_any (same q)) k })

pub row_cause : (places : List PlaceRow) (rows : List FlightRow) (fault : SchedFault) → RowFault places rows fault → RowCause places rows fault
row_cause places rows (PlaceTwice line) (b, r, a, e, right, has, least) = has
row_cause places rows (UnknownPlace line) h = h
row_cause places rows (SamePlace line) h = h
row_cause places rows (BadPeriod line) h = h
row_cause places rows (ArrivesBefore line) h = h
row_cause places rows (Twice line) h = h
row_cause places rows (TooMany line) h = h
row_cause places rows Mem h = tt

module _ (places : List PlaceRow) (rows : List FlightRow) (i : ℕ) (d row : FlightRow) (flights : List Flight) (lt : i < length rows) (is : row ≡ get_or rows i d) (e : Expanded places (take i rows) flights) where
  pub own_cause : (fault : SchedFault) → OwnFault places row fault → RowCause places rows fault
  own_cause fault h = let k = h (take i rows) in row_cause places rows fault (take i rows, row, drop (i + 1) rows, split_is rows i d row lt is, e.right, k.0, k.1)

  pub twice_cause : NoOwnFault places row → (fault : SchedFault) → (fault ≡ Mem) ⊎ ((fault ≡ Twice row.line) × RepeatsOne row flights) → RowCause places rows fault
  twice_cause own fault (inl m) = subst (RowCause places rows) (sym m) tt
  twice_cause own fault (inr t) =
      subst (RowCause places rows) (sym t.0)
      (take i rows, row, drop (i + 1) rows, split_is rows i d row lt is, e.right, (refl, repeated places (take i rows) flights e row own t.1), twice_least places (take i rows) flights e row own)

  pub many_cause : NoOwnFault places row → (new : List Flight) → AddsRow row flights new → IsDistinct same (map number_of new) → MOST_DATED_FLIGHTS < length new → RowCause places rows (TooMany row.line)
  many_cause own new adds differ many = (
    take i rows,
    row,
    drop (i + 1) rows,
    split_is rows i d row lt is,
    e.right,
    (refl, subst (λ n. MOST_DATED_FLIGHTS < n) (counted places (take i rows) flights e row own new adds differ) many),
    many_least places (take i rows) flights e row own new adds differ,
  )

  pub expanded_next : NoOwnFault places row → (new : List Flight) → AddsRow row flights new → IsDistinct same (map number_of new) → length new ≤ MOST_DATED_FLIGHTS → Expanded places (take (i + 1) rows) new
  expanded_next own new adds differ few = subst (λ rs. Expanded places rs new) (sym (front_read rows i d row lt is)) (expanded_more places (take i rows) flights e row own new adds differ few)
