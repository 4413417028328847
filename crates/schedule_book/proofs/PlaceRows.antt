-- The rows of places and what is found of them by place.
use Rattle.std.proofs.Common.{◌≡◌, ◌⊎◌, ℕ, ◌+◌, ◌<◌, Bool, true, false, cond, List, [], ◌∷◌, ◌++◌, length, take, drop, get_or, find, Option, Some, None, option_map, is_some, refl, sym, ap, ap₂, ◌∙◌, subst, inl, inr}
use Rattle.std.proofs.lemmas.Bool.{cases_Bool}
use Rattle.fare_law.specs.declared.names.Place.{Place}
use Rattle.fare_law.specs.declared.rows.PlaceRow.{PlaceRow}
use Rattle.fare_law.specs.Book.{same_place}
use Rattle.fare_law.specs.contracts.names.PlacePartialEq.TheImpl as place
use Rattle.std.proofs.lemmas.Slice.Eq.{bytes_eq-Decides}
use Rattle.std.proofs.lemmas.Bool.Decides.{same_from_decides}
use Rattle.std.specs.Cmp.Lexicographic.{bytes_decides}
use Rattle.fare_law.specs.Limits.{IsPlace, IsPlaceRow}
use Rattle.fare_law.specs.Lists.{Each, IsIn}
use Rattle.schedule_book.specs.Connects.{connect_of}
use Rattle.schedule_book.specs.Faults.{IsKnown, PlacesDiffer, PlaceFault}
use Rattle.schedule_book.specs.declared.faults.SchedFault.TheVariants.{PlaceTwice}
use Rattle.schedule_book.proofs.Rows.{split_push}
use Rattle.law_lemmas.proofs.Lists.{no_middle, split_is}

pub same_told : (p q : Place) → same_place p q ≡ true → p ≡ q
same_told p q h = let e = (bytes_eq-Decides p.0 q.0).0 h in λ i. record { 0 = e i }

pub told_same : (p q : Place) → p ≡ q → same_place p q ≡ true
told_same p q e = (bytes_eq-Decides p.0 q.0).1 (ap (λ x. x.0) e)

pub test_is : (p q : Place) → place.ghosts.eq p q ≡ same_place p q
test_is p q = same_from_decides _ (same_place p q) (bytes_decides p.0 q.0) (bytes_eq-Decides p.0 q.0)

connect_push : (rows : List PlaceRow) (row : PlaceRow) (q : Place) → connect_of (rows ++ row ∷ []) q ≡ cond (is_some (connect_of rows q)) (connect_of rows q) (cond (same_place q row.place) (Some row.connect) None)
connect_push [] row q = by (same_place q row.place)
  where
    by : (b : Bool) → option_map (λ (r : PlaceRow). r.connect) (cond b (Some row) None) ≡ cond b (Some row.connect) None
    by true = refl
    by false = refl
connect_push (r ∷ rows) row q = by (same_place q r.place) (connect_push rows row q)
  where
    by : (b : Bool) → connect_of (rows ++ row ∷ []) q ≡ cond (is_some (connect_of rows q)) (connect_of rows q) (cond (same_place q row.place) (Some row.connect) None)
        → option_map (λ (r : PlaceRow). r.connect) (cond b (Some r) (find (λ s. same_place q s.place) (rows ++ row ∷ [])))
        ≡ cond (is_some (option_map (λ (r : PlaceRow). r.connect) (cond b (Some r) (find (λ s. same_place q s.place) rows)))) (option_map (λ (r : PlaceRow). r.connect) (cond b (Some r) (find (λ s. same_place q s.place) rows))) (cond (same_place q row.place) (Some row.connect) None)
    by true h = refl
    by false h = h

pub known_some : (q : Place) (rows : List PlaceRow) → IsKnown q rows → connect_of rows q ≡ None → ⊥
known_some q [] k e = k.1
known_some q (r ∷ rows) k e = by (λ i. known_some q rows (k.0, i, k.2)) (same_place q r.place) refl e
  where
    by : (IsIn k.0 rows → connect_of rows q ≡ None → ⊥) → (b : Bool) → same_place q r.place ≡ b → option_map (λ (r : PlaceRow). r.connect) (cond b (Some r) (find (λ s. same_place q s.place) rows)) ≡ None → ⊥
    by rec true t h = cc
    by rec false t h = elim k.1 [
      | inl s ↦ clash (told_same q r.place (sym (ap (λ x. x.place) (sym s) ∙ k.2))) t
      | inr i ↦ rec i h
    ]
      where
        clash : {b : Bool} → b ≡ true → b ≡ false → ⊥
        clash x y = cc

pub some_known : (q : Place) (rows : List PlaceRow) (n : ℕ) → connect_of rows q ≡ Some n → IsKnown q rows
some_known q [] n e = absurd (cc)
some_known q (r ∷ rows) n e = by (some_known q rows n) (same_place q r.place) refl e
  where
    by : (connect_of rows q ≡ Some n → IsKnown q rows) → (b : Bool) → same_place q r.place ≡ b → option_map (λ (r : PlaceRow). r.connect) (cond b (Some r) (find (λ s. same_place q s.place) rows)) ≡ Some n → IsKnown q (r ∷ rows)
    by rec true t h = (r, inl refl, sym (same_told q r.place t))
    by rec false t h = let k = rec h in (k.0, inr k.1, k.2)

-- what a map says of places after a row was put into it
pub connects_more : (old new : Place → Option ℕ) (rows : List PlaceRow) (row : PlaceRow) → ((q : Place) → new q ≡ cond (place.ghosts.eq row.place q) (Some row.connect) (old q)) → old row.place ≡ None → ((q : Place) → old q ≡ connect_of rows q) → (q : Place) → new q ≡ connect_of (rows ++ row ∷ []) q
connects_more old new rows row u none same q = elim (cases_Bool (same_place row.place q)) [
  | inl t ↦
      let e : row.place ≡ q = same_told row.place q t in
      let o : connect_of rows q ≡ None = sym (same q) ∙ ap old (sym e) ∙ none in
      let b : same_place q row.place ≡ true = told_same q row.place (sym e) in
      u q ∙ ap (λ b. cond b (Some row.connect) (old q)) (test_is row.place q ∙ t)
      ∙ sym (connect_push rows row q ∙ ap₂ (λ c d. cond (is_some c) c (cond d (Some row.connect) None)) o b)
  | inr f ↦
      let b : same_place q row.place ≡ false = other q f in
      u q ∙ ap (λ b. cond b (Some row.connect) (old q)) (test_is row.place q ∙ f) ∙ same q
      ∙ sym (connect_push rows row q ∙ ap (λ d. cond (is_some (connect_of rows q)) (connect_of rows q) (cond d (Some row.connect) None)) b ∙ stays (connect_of rows q))
]
  where
    other : (q : Place) → same_place row.place q ≡ false → same_place q row.place ≡ false
    other q f = elim (cases_Bool (same_place q row.place)) [
      | inl t ↦ absurd (clash (told_same row.place q (sym (same_told q row.place t))) f)
      | inr g ↦ g
    ]
      where
        clash : {b : Bool} → b ≡ true → b ≡ false → ⊥
        clash x y = cc

    stays : (o : Option ℕ) → cond (is_some o) o None ≡ o
    stays None = refl
    stays (Some n) = refl

pub differ_none : PlacesDiffer []
differ_none before row after e k = no_middle before row after e

pub differ_more : (rows : List PlaceRow) (row : PlaceRow) → PlacesDiffer rows → (IsKnown row.place rows → ⊥) → PlacesDiffer (rows ++ row ∷ [])
differ_more rows row d n before r after e k = elim (split_push rows row before r after e) [
  | inl h ↦ n (subst (λ p. IsKnown p rows) (ap (λ x. x.place) h.1) (subst (IsKnown r.place) h.0 k))
  | inr h ↦ d before r h.0 h.1 k
]

pub place_fault : (rows : List PlaceRow) (i : ℕ) (d row : PlaceRow) → i < length rows → row ≡ get_or rows i d → PlacesDiffer (take i rows) → IsKnown row.place (take i rows) → PlaceFault rows (PlaceTwice row.line)
place_fault rows i o row lt e d k = (take i rows, row, drop (i + 1) rows, split_is rows i o row lt e, d, k, refl)

pub known_told : (q : Place) (rows : List PlaceRow) (o : Option ℕ) → o ≡ connect_of rows q → is_some o ≡ true → IsKnown q rows
known_told q rows None e t = absurd (cc)
known_told q rows (Some n) e t = some_known q rows n (sym e)

pub none_told : (o : Option ℕ) → is_some o ≡ false → o ≡ None
none_told None f = refl
none_told (Some n) f = absurd (cc)

pub known_decided : (q : Place) (rows : List PlaceRow) → IsKnown q rows ⊎ (IsKnown q rows → ⊥)
known_decided q rows = by (connect_of rows q) refl
  where
    by : (o : Option ℕ) → connect_of rows q ≡ o → IsKnown q rows ⊎ (IsKnown q rows → ⊥)
    by None e = inr (λ k. known_some q rows k e)
    by (Some n) e = inl (some_known q rows n e)

-- a known place is of its form, where all rows are
pub known_formed : (rows : List PlaceRow) → Each IsPlaceRow rows → (place : Place) → IsKnown place rows → IsPlace place
known_formed [] f place k = absurd k.1
known_formed (r ∷ rows) f place (row, inl e, same) = subst IsPlace (ap (λ x. x.place) (sym e) ∙ same) f.0.place
known_formed (r ∷ rows) f place (row, inr i, same) = known_formed rows f.1 place (row, i, same)
