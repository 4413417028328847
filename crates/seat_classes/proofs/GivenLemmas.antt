-- Rows that are given: what they have of a key, and the first that has the key of an earlier one.
use Rattle.std.proofs.Common.{◌≡◌, ◌+◌, ◌<◌, ℕ, Bool, true, false, cond, List, [], ◌∷◌, ◌++◌, length, map, take, drop, get_or, find, Option, Some, None, option_map, is_some, refl, ap, ap₂, sym, subst, ◌∙◌, inl, inr}
use Rattle.std.proofs.lemmas.Bool.{both_ways, cases_Bool}
use Rattle.std.proofs.lemmas.List.{map-append}
use Rattle.fare_law.specs.declared.filings.SeatKey.{SeatKey}
use Rattle.fare_law.specs.declared.rows.SeatRow.{SeatRow}
use Rattle.fare_law.specs.Book.{row_key, same_seat_key}
use Rattle.fare_law.specs.Lists.{AllDifferent, IsIn}
use Rattle.seat_classes.specs.Given.{FirstRepeat, rows_have}
use Rattle.seat_classes.specs.Held.{Changes, seats_at}
use Rattle.law_lemmas.proofs.Lists.{front_read, split_is}
use Rattle.law_lemmas.proofs.Names.{same_seats_tell}
use Rattle.law_lemmas.proofs.Pairs.{differ_more}

-- ---- what rows have of a key
have_push : (rows : List SeatRow) (row : SeatRow) (q : SeatKey) → rows_have (rows ++ row ∷ []) q ≡ cond (is_some (rows_have rows q)) (rows_have rows q) (cond (same_seat_key q (row_key row)) (Some row.seats) None)
have_push [] row q = by (same_seat_key q (row_key row))
  where
    by : (b : Bool) → option_map (λ (r : SeatRow). r.seats) (cond b (Some row) None) ≡ cond b (Some row.seats) None
    by true = refl
    by false = refl
have_push (r ∷ rows) row q = by (same_seat_key q (row_key r)) (have_push rows row q)
  where
    by : (b : Bool) → rows_have (rows ++ row ∷ []) q ≡ cond (is_some (rows_have rows q)) (rows_have rows q) (cond (same_seat_key q (row_key row)) (Some row.seats) None)
        → option_map (λ (r : SeatRow). r.seats) (cond b (Some r) (find (λ s. same_seat_key q (row_key s)) (rows ++ row ∷ [])))
        ≡ cond (is_some (option_map (λ (r : SeatRow). r.seats) (cond b (Some r) (find (λ s. same_seat_key q (row_key s)) rows)))) (option_map (λ (r : SeatRow). r.seats) (cond b (Some r) (find (λ s. same_seat_key q (row_key s)) rows))) (cond (same_seat_key q (row_key row)) (Some row.seats) None)
    by true h = refl
    by false h = h

key_had : (rows : List SeatRow) (q : SeatKey) → IsIn q (map row_key rows) → rows_have rows q ≡ None → ⊥
key_had [] q i e = i
key_had (r ∷ rows) q i e = by (key_had rows q) (same_seat_key q (row_key r)) refl e
  where
    by : (IsIn q (map row_key rows) → rows_have rows q ≡ None → ⊥) → (b : Bool) → same_seat_key q (row_key r) ≡ b → option_map (λ (r : SeatRow). r.seats) (cond b (Some r) (find (λ s. same_seat_key q (row_key s)) rows)) ≡ None → ⊥
    by rec true t h = cc
    by rec false f h = elim i [
      | inl s ↦ both_ways _ f ((same_seats_tell q (row_key r)).1 s)
      | inr o ↦ rec o h
    ]

had_key : (rows : List SeatRow) (q : SeatKey) (seats : List ℕ) → rows_have rows q ≡ Some seats → IsIn q (map row_key rows)
had_key [] q seats e = absurd (cc)
had_key (r ∷ rows) q seats e = by (had_key rows q seats) (same_seat_key q (row_key r)) refl e
  where
    by : (rows_have rows q ≡ Some seats → IsIn q (map row_key rows)) → (b : Bool) → same_seat_key q (row_key r) ≡ b → option_map (λ (r : SeatRow). r.seats) (cond b (Some r) (find (λ s. same_seat_key q (row_key s)) rows)) ≡ Some seats → IsIn q (row_key r ∷ map row_key rows)
    by rec true t h = inl ((same_seats_tell q (row_key r)).0 t)
    by rec false f h = inr (rec h)

-- ---- rows that a map holds, one after another
-- the map holds these rows, whose keys are all different
pub record Holds (rows : List SeatRow) (held : List (SeatKey × List ℕ)) : Type 0 where
  pub have : (q : SeatKey) → seats_at held q ≡ rows_have rows q
  pub differ : AllDifferent (map row_key rows)

pub holds_none : (held : List (SeatKey × List ℕ)) → held ≡ [] → Holds [] held
holds_none held e = record { have = λ q. ap (λ h. seats_at h q) e; differ = tt }

stays : {X : Type 0} (o : Option X) → cond (is_some o) o None ≡ o
stays None = refl
stays (Some x) = refl

holds_push : (rows : List SeatRow) (row : SeatRow) (old new : List (SeatKey × List ℕ)) → Holds rows old → Changes old new (row_key row) (Some row.seats) → seats_at old (row_key row) ≡ None → Holds (rows ++ row ∷ []) new
holds_push rows row old new h u none = record {
  have = λ q. u q ∙ elim (cases_Bool (same_seat_key q (row_key row))) [
    | inl t ↦
        let e : rows_have rows q ≡ None = ap (rows_have rows) ((same_seats_tell q (row_key row)).0 t) ∙ sym (h.have (row_key row)) ∙ none in
        ap (λ b. cond b (Some row.seats) (seats_at old q)) t ∙ sym (have_push rows row q ∙ ap₂ (λ o b. cond (is_some o) o (cond b (Some row.seats) None)) e t)
    | inr f ↦
        ap (λ b. cond b (Some row.seats) (seats_at old q)) f ∙ h.have q
        ∙ sym (have_push rows row q ∙ ap (λ b. cond (is_some (rows_have rows q)) (rows_have rows q) (cond b (Some row.seats) None)) f ∙ stays (rows_have rows q))
  ];
  differ = subst AllDifferent (sym (map-append row_key rows (row ∷ []))) (differ_more (map row_key rows) (row_key row) h.differ (λ i. key_had rows (row_key row) i (sym (h.have (row_key row)) ∙ none)));
}

-- at a row that follows others
module _ (rows : List SeatRow) (i : ℕ) (d row : SeatRow) (lt : i < length rows) (is : row ≡ get_or rows i d) (held : List (SeatKey × List ℕ)) (h : Holds (take i rows) held) where
  pub holds_more : (new : List (SeatKey × List ℕ)) → Changes held new (row_key row) (Some row.seats) → seats_at held (row_key row) ≡ None → Holds (take (i + 1) rows) new
  holds_more new u none = subst (λ rs. Holds rs new) (sym (front_read rows i d row lt is)) (holds_push (take i rows) row held new h u none)

  pub first_repeat : (old : Option (List ℕ)) → old ≡ seats_at held (row_key row) → is_some old ≡ true → FirstRepeat rows row.line
  first_repeat None e s = absurd (cc)
  first_repeat (Some seats) e s = record {
    before = take i rows;
    row = row;
    after = drop (i + 1) rows;
    split = split_is rows i d row lt is;
    differ = h.differ;
    repeated = had_key (take i rows) (row_key row) seats (sym (h.have (row_key row)) ∙ sym e);
    at = refl;
  }
