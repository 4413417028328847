-- The rows of a book's sheet: in a strict order, live, within limits, and the sheet is one. Given on to the crates above.
use Rattle.std.proofs.Common.{◌≡◌, ◌≢◌, ◌⊎◌, ℕ, zero, suc, ◌+◌, ◌≤◌, ◌<◌, List, [], ◌∷◌, length, map, slice_get, Some, All, refl, sym, ap, subst, ◌∙◌, inl, inr, arith}
use Rattle.fare_book.specs.Keeping.{IsLive, Limited}
use Rattle.fare_law.specs.declared.limits.TheConstants.{MOST_FARES}
use Rattle.std.proofs.lemmas.List.Elements.{All-head, All-tail}
use Rattle.fare_component.specs.Keys.{IsKey, IsLeg, IsRow}
use Rattle.fare_law.specs.declared.flights.Flight.{Flight}
use Rattle.fare_law.specs.declared.market.OfferKey.{OfferKey}
use Rattle.fare_law.specs.declared.sheets.Leg.{Leg}
use Rattle.fare_law.specs.Limits.{IsFlight}
use Rattle.fare_law.specs.Offers.{flights_of}
use Rattle.fare_law.specs.RuleLimits.{IsListOf}
use Rattle.fare_law.specs.declared.fares.FareKey.{FareKey}
use Rattle.fare_law.specs.declared.names.Place.{Place}
use Rattle.fare_law.specs.declared.sheets.SheetRow.{SheetRow}
use Rattle.fare_law.specs.Book.{Book, live_fare, live_rule}
use Rattle.fare_law.specs.Lists.{AllDifferent, Each, EachPair, IsIn, KLeast, Less}
use Rattle.fare_law.specs.Sheets.{IsLiveRow, IsSheet, RowBefore, Sheet, SheetOf}
use Rattle.fare_law.specs.declared.limits.TheConstants.{MOST_FLIGHTS_OF_A_COMPONENT}
use Rattle.residual_keys.proofs.LeastOne.{k_least_one}
use Rattle.law_lemmas.proofs.EachOne.{each_from}
use Rattle.law_lemmas.proofs.Options.{some_one, some_there}

-- all keys that a later row may not have
keys_apart : (k : FareKey) (rows : List SheetRow) → Each (λ row. k ≢ row.fare.key) rows → Each (λ l. k ≢ l) (map (λ row. row.fare.key) rows)
keys_apart k [] h = tt
keys_apart k (row ∷ rows) h = (h.0, keys_apart k rows h.1)

module _ (never : (w : List ℕ) → Less w w → ⊥) (trans : (u v w : List ℕ) → Less u v → Less v w → Less u w) (total : (v w : List ℕ) → Less v w ⊎ ((v ≡ w) ⊎ Less w v)) where
  row_never : (r : SheetRow) → RowBefore r r → ⊥
  row_never r (inl h) = never r.fare.key.carrier.0 h
  row_never r (inr h) = never r.fare.key.basis.0 h.1

  row_trans : (r s t : SheetRow) → RowBefore r s → RowBefore s t → RowBefore r t
  row_trans r s t (inl h) (inl k) = inl (trans r.fare.key.carrier.0 s.fare.key.carrier.0 t.fare.key.carrier.0 h k)
  row_trans r s t (inl h) (inr k) = inl (subst (λ c. Less r.fare.key.carrier.0 c.0) k.0 h)
  row_trans r s t (inr h) (inl k) = inl (subst (λ c. Less c.0 t.fare.key.carrier.0) (sym h.0) k)
  row_trans r s t (inr h) (inr k) = inr (h.0 ∙ k.0, trans r.fare.key.basis.0 s.fare.key.basis.0 t.fare.key.basis.0 h.1 k.1)

  row_differs : (r s : SheetRow) → RowBefore r s → r.fare.key.carrier ≡ s.fare.key.carrier → r.fare.key.basis ≡ s.fare.key.basis → ⊥
  row_differs r s (inl h) c a = never s.fare.key.carrier.0 (subst (λ x. Less x.0 s.fare.key.carrier.0) c h)
  row_differs r s (inr h) c a = never s.fare.key.basis.0 (subst (λ x. Less x.0 s.fare.key.basis.0) a h.1)

  before_rest : (r : SheetRow) (rows : List SheetRow) → EachPair RowBefore (r ∷ rows) → Each (RowBefore r) rows
  before_rest r [] h = tt
  before_rest r (s ∷ []) h = (h.0, tt)
  before_rest r (s ∷ t ∷ rows) h = (h.0, before_rest r (t ∷ rows) (row_trans r s t h.0 h.1.0, h.1.1))

  rest_pairs : (r : SheetRow) (rows : List SheetRow) → EachPair RowBefore (r ∷ rows) → EachPair RowBefore rows
  rest_pairs r [] h = tt
  rest_pairs r (s ∷ rows) h = h.1

  got_each : (P : SheetRow → Type 0) (rows : List SheetRow) (n : ℕ) (x : SheetRow) → Each P rows → slice_get rows n ≡ Some x → P x
  got_each P [] n x h e = cc
  got_each P (y ∷ rows) zero x h e = let same : y ≡ x = cc in subst P same h.0
  got_each P (y ∷ rows) (suc n) x h e = got_each P rows n x h.1 e

  -- rows of different places have different fares
  pub places_apart : (rows : List SheetRow) (i j : ℕ) (r s : SheetRow) → EachPair RowBefore rows → slice_get rows i ≡ Some r → slice_get rows j ≡ Some s → i < j → r.fare.key.carrier ≡ s.fare.key.carrier → r.fare.key.basis ≡ s.fare.key.basis → ⊥
  places_apart [] i j r s h e f lt c a = cc
  places_apart (x ∷ rows) zero zero r s h e f lt c a = absurd (omega arith)
  places_apart (x ∷ rows) zero (suc j) r s h e f lt c a = let same : x ≡ r = cc in row_differs r s (got_each (RowBefore r) rows j s (subst (λ y. Each (RowBefore y) rows) same (before_rest x rows h)) f) c a
  places_apart (x ∷ rows) (suc i) zero r s h e f lt c a = absurd (omega arith)
  places_apart (x ∷ rows) (suc i) (suc j) r s h e f lt c a = places_apart rows i j r s (rest_pairs x rows h) e f (omega arith) c a

  keys_different : (rows : List SheetRow) → EachPair RowBefore rows → AllDifferent (map (λ row. row.fare.key) rows)
  keys_different [] h = tt
  keys_different (r ∷ rows) h = (keys_apart r.fare.key rows (apart rows (before_rest r rows h)), keys_different rows (rest_pairs r rows h))
    where
      apart : (ss : List SheetRow) → Each (RowBefore r) ss → Each (λ row. r.fare.key ≢ row.fare.key) ss
      apart [] k = tt
      apart (s ∷ ss) k = ((λ e. row_differs r s k.0 (ap (λ x. x.carrier) e) (ap (λ x. x.basis) e)), apart ss k.1)

  module _ (b : Book) (limited : Limited b) (sheet : Sheet) (h : SheetOf b sheet.from sheet.to sheet) where
    live : (row : SheetRow) → IsIn row sheet.rows → IsLiveRow b sheet.from sheet.to row
    live row i = (h.live row).0 i

    keys_live : (rows : List SheetRow) → ((row : SheetRow) → IsIn row rows → IsIn row sheet.rows) → Each (IsLive b) (map (λ row. row.fare.key) rows)
    keys_live [] f = tt
    keys_live (r ∷ rows) f = (some_there (live_fare b r.fare.key) r.fare (live r (f r (inl refl))).fare, keys_live rows (λ s i. f s (inr i)))

    map_length : (rows : List SheetRow) → length (map (λ row. row.fare.key) rows) ≡ length rows
    map_length [] = refl
    map_length (r ∷ rows) = omega (arith, map_length rows)

    few : length sheet.rows ≤ MOST_FARES
    few = limited.few_fares (length sheet.rows) (map (λ row. row.fare.key) sheet.rows, map_length sheet.rows, keys_different sheet.rows h.ascending, keys_live sheet.rows (λ row i. i))

    pub is_sheet : IsSheet sheet.from sheet.to sheet.rows
    is_sheet = record { few = few; market = each_from _ sheet.rows (λ row i. ((live row i).filed_from, (live row i).filed_to)); ascending = h.ascending }

    pub rows_within : Each IsRow sheet.rows
    rows_within = each_from IsRow sheet.rows (λ row i. ((limited.fares row.fare.key row.fare (live row i).fare).1, limited.rules row.fare.key.carrier row.fare.rule row.rule (live row i).rule))

  -- the live rows of a market compare, and one key has one
  rows_total : (b : Book) (from to : Place) (r s : SheetRow) → IsLiveRow b from to r → IsLiveRow b from to s → RowBefore r s ⊎ ((r ≡ s) ⊎ RowBefore s r)
  rows_total b from to r s h k = elim (total r.fare.key.carrier.0 s.fare.key.carrier.0) [
    | inl lt ↦ inl (inl lt)
    | inr o ↦ elim o [
      | inr gt ↦ inr (inr (inl gt))
      | inl c ↦ let cs : r.fare.key.carrier ≡ s.fare.key.carrier = (λ i. record { 0 = c i }) in elim (total r.fare.key.basis.0 s.fare.key.basis.0) [
        | inl lt ↦ inl (inr (cs, lt))
        | inr p ↦ elim p [
          | inr gt ↦ inr (inr (inr (sym cs, gt)))
          | inl a ↦ inr (inl (same cs (λ i. record { 0 = a i })))
        ]
      ]
    ]
  ]
    where
      same : r.fare.key.carrier ≡ s.fare.key.carrier → r.fare.key.basis ≡ s.fare.key.basis → r ≡ s
      same c a =
          let from_is = h.filed_from ∙ sym k.filed_from in
          let to_is = h.filed_to ∙ sym k.filed_to in
          let key : r.fare.key ≡ s.fare.key = λ i. record { carrier = c i; from = from_is i; to = to_is i; basis = a i } in
          let fare : r.fare ≡ s.fare = some_one (live_fare b r.fare.key) r.fare s.fare h.fare (ap (live_fare b) key ∙ k.fare) in
          let rule : r.rule ≡ s.rule = some_one (live_rule b r.fare.key.carrier r.fare.rule) r.rule s.rule h.rule (ap (λ f. live_rule b f.key.carrier f.rule) fare ∙ k.rule) in
          λ i. record { fare = fare i; rule = rule i }

  least : (b : Book) (from to : Place) (sheet : Sheet) (k : ℕ) → length sheet.rows ≤ k → SheetOf b from to sheet → KLeast (IsLiveRow b from to) RowBefore k sheet.rows
  least b from to sheet k few h = record { ascending = h.ascending; each = each_from _ sheet.rows (λ row i. (h.live row).0 i); few = few; rest = λ row l out. absurd (out ((h.live row).1 l)) }

  pub sheet_one : (b : Book) (from to : Place) (x y : Sheet) → SheetOf b from to x → SheetOf b from to y → x ≡ y
  sheet_one b from to x y h k =
      let rows : x.rows ≡ y.rows = k_least_one RowBefore row_trans row_never x.rows y.rows (IsLiveRow b from to) (length x.rows + length y.rows) (λ r s a c. rows_total b from to r s a c) (least b from to x (length x.rows + length y.rows) (omega arith) h) (least b from to y (length x.rows + length y.rows) (omega arith) k) in
      let f = h.filed_from ∙ sym k.filed_from in
      let t = h.filed_to ∙ sym k.filed_to in
      λ i. record { from = f i; to = t i; rows = rows i }

-- a key of legs and a sheet of the book is within its limits
pub key_within : (key : OfferKey) (legs : List Leg) (fs : List Flight) (sheet : Sheet) → key.legs ≡ legs → key.sheet.value ≡ sheet → flights_of legs ≡ fs → 1 ≤ length fs → length fs ≤ MOST_FLIGHTS_OF_A_COMPONENT → All IsFlight fs → IsSheet sheet.from sheet.to sheet.rows → Each IsRow sheet.rows → IsKey key
key_within key legs fs sheet a e same some few within s rows = record {
  legs = subst (IsListOf MOST_FLIGHTS_OF_A_COMPONENT IsLeg) (sym a) (record { count = (omega (arith, long, some), omega (arith, long, few)); each = each_leg legs (subst (All IsFlight) (sym same) within) });
  sheet = subst (λ x. IsSheet x.from x.to x.rows) (sym e) s;
  rows = subst (λ x. Each IsRow x.rows) (sym e) rows;
}
  where
    flights_long : (ls : List Leg) → length (flights_of ls) ≡ length ls
    flights_long [] = refl
    flights_long (l ∷ ls) = omega (arith, flights_long ls)

    long : length legs ≡ length fs
    long = sym (flights_long legs) ∙ ap length same

    each_leg : (ls : List Leg) → All IsFlight (flights_of ls) → Each IsLeg ls
    each_leg [] h = tt
    each_leg (l ∷ ls) h = (All-head IsFlight l.flight (flights_of ls) h, each_leg ls (All-tail IsFlight l.flight (flights_of ls) h))
