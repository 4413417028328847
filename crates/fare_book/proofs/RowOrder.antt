-- Rows in order, and how they compare.
use Rattle.std.proofs.Common.{◌≡◌, ◌⊎◌, ◌≤◌, ◌<◌, ℕ, zero, suc, List, [], ◌∷◌, length, get_or, refl, sym, ap, ap₂, subst, ◌∙◌, inl, inr, arith}
use Rattle.std.specs.Cmp.{IsTotalOrder}
use Rattle.std.specs.Cmp.Lexicographic.{slice_cmp}
use Rattle.std.specs.List.Sorted.{IsNonDecreasingBy}
use Rattle.std.specs.Ordering.{MatchOrdering, nat_cmp, ordering_index, ordering_then}
use Rattle.std.specs.declared.cmp.Ordering.{Ordering}
use Rattle.std.specs.declared.cmp.Ordering.TheVariants.{Less as Lower, Equal, Greater}
use Rattle.std.proofs.lemmas.Cmp.{alike_right, nat_list_cmp_total, on_total, then_total, tied_itself, nat_cmp_total}
use Rattle.std.proofs.lemmas.Bool.{cases_lt}
use Rattle.fare_law.specs.declared.fares.FareKey.{FareKey}
use Rattle.fare_law.specs.declared.names.Basis.{Basis}
use Rattle.fare_law.specs.declared.names.Carrier.{Carrier}
use Rattle.fare_law.specs.declared.sheets.SheetRow.{SheetRow}
use Rattle.fare_law.specs.Lists.{Each, EachPair, IsIn, Less}
use Rattle.fare_law.specs.Sheets.{RowBefore}
use Rattle.fare_book.specs.Rows.{HasName, key_order}
use Rattle.law_lemmas.proofs.Names.{carrier_whole}
use Rattle.law_lemmas.proofs.Tests.{less_is}
use Rattle.law_lemmas.proofs.Words.{words_told}

pub word_less : (v w : List ℕ) → Less v w → slice_cmp nat_cmp v w ≡ Lower
word_less [] [] h = absurd h
word_less [] (y ∷ w) h = refl
word_less (x ∷ v) [] h = absurd h
word_less (x ∷ v) (y ∷ w) (inl h) = ap (λ o. ordering_then o (slice_cmp nat_cmp v w)) (less_is x y h)
word_less (x ∷ v) (y ∷ w) (inr h) = ap (λ o. ordering_then o (slice_cmp nat_cmp v w)) (ap (nat_cmp x) (sym h.0) ∙ tied_itself nat_cmp_total x) ∙ word_less v w h.1

pub key_order_total : IsTotalOrder key_order
key_order_total = then_total (on_total (λ (k : FareKey). k.carrier.0) nat_list_cmp_total) (on_total (λ (k : FareKey). k.basis.0) nat_list_cmp_total)

-- a row that stands before another compares as lower
pub before_lower : (r s : SheetRow) → RowBefore r s → key_order r.fare.key s.fare.key ≡ Lower
before_lower r s (inl h) = ap (λ o. ordering_then o (slice_cmp nat_cmp r.fare.key.basis.0 s.fare.key.basis.0)) (word_less r.fare.key.carrier.0 s.fare.key.carrier.0 h)
before_lower r s (inr h) =
    ap (λ o. ordering_then o (slice_cmp nat_cmp r.fare.key.basis.0 s.fare.key.basis.0)) (ap (λ (c : Carrier). slice_cmp nat_cmp r.fare.key.carrier.0 c.0) (sym h.0) ∙ tied_itself nat_list_cmp_total r.fare.key.carrier.0)
    ∙ word_less r.fare.key.basis.0 s.fare.key.basis.0 h.1

basis_whole : (a b : Basis) → a.0 ≡ b.0 → a ≡ b
basis_whole a b e = λ i. record { 0 = e i }

pub tied_name : (row : SheetRow) (key : FareKey) → key_order row.fare.key key ≡ Equal → HasName key row
tied_name row key e = by (slice_cmp nat_cmp row.fare.key.carrier.0 key.carrier.0) (words_told row.fare.key.carrier.0 key.carrier.0) e
  where
    rest : (o : Ordering) → MatchOrdering o (Less row.fare.key.basis.0 key.basis.0) (row.fare.key.basis.0 ≡ key.basis.0) (Less key.basis.0 row.fare.key.basis.0) → o ≡ Equal → row.fare.key.basis.0 ≡ key.basis.0
    rest Lower k e = absurd (cc)
    rest Equal k e = k
    rest Greater k e = absurd (cc)

    by : (o : Ordering) → MatchOrdering o (Less row.fare.key.carrier.0 key.carrier.0) (row.fare.key.carrier.0 ≡ key.carrier.0) (Less key.carrier.0 row.fare.key.carrier.0)
        → ordering_then o (slice_cmp nat_cmp row.fare.key.basis.0 key.basis.0) ≡ Equal → HasName key row
    by Lower k e = absurd (cc)
    by Equal k e = (carrier_whole _ _ k, basis_whole _ _ (rest (slice_cmp nat_cmp row.fare.key.basis.0 key.basis.0) (words_told row.fare.key.basis.0 key.basis.0) e))
    by Greater k e = absurd (cc)

pub name_tied : (row : SheetRow) (key : FareKey) → HasName key row → key_order row.fare.key key ≡ Equal
name_tied row key h =
    ap₂ (λ (c : Carrier) (b : Basis). ordering_then (slice_cmp nat_cmp row.fare.key.carrier.0 c.0) (slice_cmp nat_cmp row.fare.key.basis.0 b.0)) (sym h.0) (sym h.1)
    ∙ ap₂ ordering_then (tied_itself nat_list_cmp_total row.fare.key.carrier.0) (tied_itself nat_list_cmp_total row.fare.key.basis.0)

-- rows in order compare with a key in turn
in_turn : (key : FareKey) (r s : SheetRow) → RowBefore r s → ordering_index (key_order r.fare.key key) ≤ ordering_index (key_order s.fare.key key)
in_turn key r s h = by (key_order s.fare.key key) refl
  where
    low : key_order r.fare.key s.fare.key ≡ Lower
    low = before_lower r s h

    lower : (o : Ordering) → key_order r.fare.key key ≡ Lower → ordering_index (key_order r.fare.key key) ≤ ordering_index o
    lower o e = subst (λ p. ordering_index p ≤ ordering_index o) (sym e) (omega arith)

    most : (p : Ordering) → ordering_index p ≤ 2
    most Lower = omega arith
    most Equal = omega arith
    most Greater = omega arith

    by : (o : Ordering) → key_order s.fare.key key ≡ o → ordering_index (key_order r.fare.key key) ≤ ordering_index o
    by Lower e = lower Lower (key_order_total.trans r.fare.key s.fare.key key low e)
    by Equal e = lower Equal (sym (alike_right key_order_total s.fare.key key r.fare.key e) ∙ low)
    by Greater e = most (key_order r.fare.key key)

rises : (n : SheetRow → ℕ) (xs : List SheetRow) → ((r s : SheetRow) → RowBefore r s → n r ≤ n s) → EachPair RowBefore xs → (i j : ℕ) (d : SheetRow) → i ≤ j → j < length xs → n (get_or xs i d) ≤ n (get_or xs j d)
rises n [] h e i j d le lt = absurd (omega (arith, lt))
rises n (x ∷ []) h e zero zero d le lt = omega arith
rises n (x ∷ []) h e i (suc j) d le lt = absurd (omega (arith, lt))
rises n (x ∷ []) h e (suc i) zero d le lt = absurd (omega (arith, le))
rises n (x ∷ y ∷ ys) h e zero zero d le lt = omega arith
rises n (x ∷ y ∷ ys) h e zero (suc j) d le lt = omega (arith, h x y e.0, rises n (y ∷ ys) h e.1 0 j d (omega arith) (omega (arith, lt)))
rises n (x ∷ y ∷ ys) h e (suc i) zero d le lt = absurd (omega (arith, le))
rises n (x ∷ y ∷ ys) h e (suc i) (suc j) d le lt = rises n (y ∷ ys) h e.1 i j d (omega (arith, le)) (omega (arith, lt))

pub rows_rise : (key : FareKey) (rows : List SheetRow) → EachPair RowBefore rows → IsNonDecreasingBy (λ row. ordering_index (key_order row.fare.key key)) rows
rows_rise key rows e = rises (λ row. ordering_index (key_order row.fare.key key)) rows (in_turn key) e

-- ---- by places
in_at : (xs : List SheetRow) (k : ℕ) (x d : SheetRow) → k < length xs → x ≡ get_or xs k d → IsIn x xs
in_at [] k x d lt e = absurd (omega (arith, lt))
in_at (y ∷ ys) zero x d lt e = inl e
in_at (y ∷ ys) (suc k) x d lt e = inr (in_at ys k x d (omega (arith, lt)) e)

each_at : (P : SheetRow → Type 0) (xs : List SheetRow) → ((k : ℕ) (d : SheetRow) → k < length xs → P (get_or xs k d)) → Each P xs
each_at P [] h = tt
each_at P (x ∷ xs) h = (h 0 x (omega arith), each_at P xs (λ k d lt. h (suc k) d (omega (arith, lt))))

-- the row at a place that compares as equal
pub held_at : (key : FareKey) (rows : List SheetRow) (k : ℕ) (row : SheetRow) → k < length rows → row ≡ get_or rows k row → ((d : SheetRow) → key_order (get_or rows k d).fare.key key ≡ Equal) → IsIn row rows × HasName key row
held_at key rows k row lt e h = (in_at rows k row row lt e, tied_name row key (ap (λ (r : SheetRow). key_order r.fare.key key) e ∙ h row))

-- rows that compare as lower, and then as greater
pub none_held : (key : FareKey) (rows : List SheetRow) (at : ℕ)
    → ((k : ℕ) (d : SheetRow) → 0 ≤ k → k < at → key_order (get_or rows k d).fare.key key ≡ Lower)
    → ((k : ℕ) (d : SheetRow) → at ≤ k → k < length rows → key_order (get_or rows k d).fare.key key ≡ Greater)
    → Each (λ row. HasName key row → ⊥) rows
none_held key rows at low high = each_at (λ row. HasName key row → ⊥) rows (λ k d lt h. by k d lt (name_tied (get_or rows k d) key h) (order k))
  where
    order : (k : ℕ) → (k < at) ⊎ (at ≤ k)
    order k = cases_lt k at

    lower : Equal ≡ Lower → ⊥
    lower e = cc

    greater : Equal ≡ Greater → ⊥
    greater e = cc

    by : (k : ℕ) (d : SheetRow) → k < length rows → key_order (get_or rows k d).fare.key key ≡ Equal → (k < at) ⊎ (at ≤ k) → ⊥
    by k d lt e (inl h) = lower (sym e ∙ low k d (omega arith) h)
    by k d lt e (inr h) = greater (sym e ∙ high k d h lt)
