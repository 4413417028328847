-- Rows by numbers: what they stand for stays while tables grow. Given on to those who read and make the rows of a certificate. And lists that are compared from the front.
use Rattle.std.proofs.Common.{◌≡◌, ◌∙◌, ℕ, zero, suc, ◌+◌, Bool, true, false, ◌&&◌, List, [], ◌∷◌, ◌++◌, drop, slice_get, Some, refl, sym, ap, ap₂, arith}
use Rattle.std.specs.Cmp.Lexicographic.{pointwise}
use Rattle.certificate.specs.declared.numbered.NumberedRow.{NumberedRow}
use Rattle.certificate.specs.NumberedRows.{AreLive, bound_of, key_of, row_of, rows_of}
use Rattle.residual_table.specs.Keys.{IsLive, KeepsResiduals, Tables}
use Rattle.residual_table.proofs.KeyFacts.{residual_is}

module _ (old new : Tables) (keeps : KeepsResiduals old new) where
  pub still_live : (rs : List NumberedRow) → AreLive old rs → AreLive new rs
  still_live [] h = tt
  still_live (r ∷ rs) h = ((h.0.0, keeps (key_of r) h.0.0 h.0.1), still_live rs h.1)

  same_row : (r : NumberedRow) → IsLive old (key_of r) → row_of new r ≡ row_of old r
  same_row r l =
      let at = residual_is new (key_of r) l.0 (keeps (key_of r) l.0 l.1) ∙ sym (residual_is old (key_of r) l.0 l.1) in
      λ j. record { residual = at j; bound = bound_of r }

  pub same_rows : (rs : List NumberedRow) → AreLive old rs → rows_of new rs ≡ rows_of old rs
  same_rows [] h = refl
  same_rows (r ∷ rs) h = ap₂ (λ x xs. x ∷ xs) (same_row r h.0) (same_rows rs h.1)

-- one more row
pub one_live : (t : Tables) (rs : List NumberedRow) (r : NumberedRow) → AreLive t rs → IsLive t (key_of r) → AreLive t (rs ++ r ∷ [])
one_live t [] r h l = (l, tt)
one_live t (s ∷ rs) r h l = (h.0, one_live t rs r h.1 l)

-- lists of one length, compared from the front
rest_of : {X : Type 0} (E : X → X → Bool) (xs ys : List X) (i : ℕ) (x y : X) → slice_get xs i ≡ Some x → slice_get ys i ≡ Some y
    → pointwise E (drop i xs) (drop i ys) ≡ (E x y && pointwise E (drop (suc i) xs) (drop (suc i) ys))
rest_of E [] ys i x y e f = absurd (cc)
rest_of E (u ∷ xs) [] i x y e f = absurd (cc)
rest_of E (u ∷ xs) (v ∷ ys) zero x y e f = let p : u ≡ x = cc in let q : v ≡ y = cc in ap₂ (λ a b. E a b && pointwise E xs ys) p q
rest_of E (u ∷ xs) (v ∷ ys) (suc i) x y e f = rest_of E xs ys i x y e f

module _ {X : Type 0} (E : X → X → Bool) (xs ys : List X) (i : ℕ) (x y : X) (e : slice_get xs i ≡ Some x) (f : slice_get ys i ≡ Some y) (so_far : pointwise E (drop i xs) (drop i ys) ≡ pointwise E xs ys) where
  -- one that differs decides
  pub unlike : E x y ≡ false → false ≡ pointwise E xs ys
  unlike h = ap (λ b. b && pointwise E (drop (suc i) xs) (drop (suc i) ys)) (sym h) ∙ (sym (rest_of E xs ys i x y e f) ∙ so_far)

  -- else the rest does
  pub alike : E x y ≡ true → pointwise E (drop (i + 1) xs) (drop (i + 1) ys) ≡ pointwise E xs ys
  alike h =
      let next : i + 1 ≡ suc i = omega arith in
      ap (λ (n : ℕ). pointwise E (drop n xs) (drop n ys)) next ∙ (ap (λ b. b && pointwise E (drop (suc i) xs) (drop (suc i) ys)) (sym h) ∙ (sym (rest_of E xs ys i x y e f) ∙ so_far))
