-- The rows of a certificate by keys: what is found by a key is the row of the residual that it stands for.
use Rattle.std.proofs.Common.{◌≡◌, ◌≢◌, ◌∙◌, ℕ, zero, suc, ◌<◌, Bool, true, false, cond, List, [], ◌∷◌, length, map, get_or, Option, Some, None, sym, refl, ap, subst, inl, inr, arith}
use Rattle.std.specs.List.{AllByRecursion, IsDistinct}
use Rattle.std.specs.Map.{keys_of, lookup}
use Rattle.certificate.specs.declared.parts.CertRow.{CertRow}
use Rattle.certificate_check.specs.Tables.{row_as}
use Rattle.fare_law.specs.Lists.{AllDifferent, Each, IsIn}
use Rattle.graph_walk.specs.Steps.{AreLive, TellsStates, rows_of}
use Rattle.residual_keys.specs.Residuals.{State}
use Rattle.residual_table.specs.declared.key.ResidualKey.{ResidualKey}

abbrev pub Entry : Type 0
Entry = ResidualKey × Option ℕ

abbrev pub residuals : List CertRow → List State
residuals rows = map (λ row. row.residual) rows

row_again : (row : CertRow) (x : State) (bound : Option ℕ) → (x, bound) ≡ row_as row → (row.residual ≡ x) × (row.bound ≡ bound)
row_again row x bound e = (ap (λ z. z.0) (sym e), ap (λ z. z.1) (sym e))

module _ (live : ResidualKey → Type 0) (state : ResidualKey → State) (same : ResidualKey → ResidualKey → Bool) (tells : TellsStates live state same) where
  -- the row that is found
  pub found : (es : List Entry) (rows : List CertRow) (key : ResidualKey) (bound : Option ℕ) → AreLive live es → rows_of state es ≡ map row_as rows → live key → lookup (same key) es ≡ Some bound
      → (row : CertRow) × IsIn row rows × (row.residual ≡ state key) × (row.bound ≡ bound)
  found [] rows key bound h r l e = absurd (cc)
  found (d ∷ es) [] key bound h r l e = absurd (cc)
  found (d ∷ es) (row ∷ rows) key bound h r l e = by (same key d.0) refl e (λ f. found es rows key bound h.1 (let tail : rows_of state es ≡ map row_as rows = cc in tail) l f)
    where
      head : (state d.0, d.1) ≡ row_as row
      head = cc

      some_same : (a b : Option ℕ) → Some a ≡ Some b → a ≡ b
      some_same a b s = cc

      by : (t : Bool) → same key d.0 ≡ t → cond t (Some d.1) (lookup (same key) es) ≡ Some bound → (lookup (same key) es ≡ Some bound → (there : CertRow) × IsIn there rows × (there.residual ≡ state key) × (there.bound ≡ bound))
          → (there : CertRow) × IsIn there (row ∷ rows) × (there.residual ≡ state key) × (there.bound ≡ bound)
      by true s f more = let a = row_again row (state d.0) d.1 head in (row, inl refl, a.0 ∙ sym ((tells key d.0 l h.0).0 s), a.1 ∙ some_same d.1 bound f)
      by false s f more = let m = more f in (m.0, inr m.1, m.2, m.3)

  -- where none is found, there is none
  pub not_found : (es : List Entry) (rows : List CertRow) (key : ResidualKey) → AreLive live es → rows_of state es ≡ map row_as rows → live key → lookup (same key) es ≡ None
      → (row : CertRow) → IsIn row rows → row.residual ≡ state key → ⊥
  not_found [] [] key h r l e row i s = i
  not_found [] (z ∷ rows) key h r l e row i s = cc
  not_found (d ∷ es) [] key h r l e row i s = i
  not_found (d ∷ es) (z ∷ rows) key h r l e row i s = by (same key d.0) refl e i (λ f j. not_found es rows key h.1 (let tail : rows_of state es ≡ map row_as rows = cc in tail) l f row j s)
    where
      head : (state d.0, d.1) ≡ row_as z
      head = cc

      by : (t : Bool) → same key d.0 ≡ t → cond t (Some d.1) (lookup (same key) es) ≡ None → IsIn row (z ∷ rows) → (lookup (same key) es ≡ None → IsIn row rows → ⊥) → ⊥
      by true t f j more = cc
      by false t f (inl j) more =
          let at : state key ≡ state d.0 = sym s ∙ ap (λ w. w.residual) j ∙ (row_again z (state d.0) d.1 head).0 in
          let agreed : same key d.0 ≡ true = (tells key d.0 l h.0).1 at in
          cc
      by false t f (inr j) more = more f j

module _ (live : ResidualKey → Type 0) (state : ResidualKey → State) where
  -- the entry at a row's place has a key that stands for the row's residual
  pub entry_at : (es : List Entry) (rows : List CertRow) (i : ℕ) (e : Entry) (d : CertRow) → AreLive live es → rows_of state es ≡ map row_as rows → i < length rows → live (get_or es i e).0 × (state (get_or es i e).0 ≡ (get_or rows i d).residual)
  entry_at [] [] i e d h r lt = absurd (omega (arith, lt))
  entry_at [] (z ∷ rows) i e d h r lt = absurd (cc)
  entry_at (f ∷ es) [] i e d h r lt = absurd (omega (arith, lt))
  entry_at (f ∷ es) (z ∷ rows) zero e d h r lt =
      let head : (state f.0, f.1) ≡ row_as z = cc in
      (h.0, sym (row_again z (state f.0) f.1 head).0)
  entry_at (f ∷ es) (z ∷ rows) (suc i) e d h r lt = entry_at es rows i e d h.1 (let tail : rows_of state es ≡ map row_as rows = cc in tail) (omega (arith, lt))

-- of rows whose residuals differ each residual is that of one
pub each_not : (x : State) (rows : List CertRow) (row : CertRow) → Each (λ y. x ≢ y) (residuals rows) → IsIn row rows → x ≡ row.residual → ⊥
each_not x [] row h i e = i
each_not x (z ∷ rows) row h (inl i) e = h.0 (e ∙ ap (λ w. w.residual) i)
each_not x (z ∷ rows) row h (inr i) e = each_not x rows row h.1 i e

pub one_row : (rows : List CertRow) → AllDifferent (residuals rows) → (r s : CertRow) → IsIn r rows → IsIn s rows → r.residual ≡ s.residual → r ≡ s
one_row [] d r s i j e = absurd i
one_row (z ∷ rows) d r s (inl i) (inl j) e = i ∙ sym j
one_row (z ∷ rows) d r s (inl i) (inr j) e = absurd (each_not z.residual rows s d.0 j (sym (ap (λ w. w.residual) i) ∙ e))
one_row (z ∷ rows) d r s (inr i) (inl j) e = absurd (each_not z.residual rows r d.0 i (sym (ap (λ w. w.residual) j) ∙ sym e))
one_row (z ∷ rows) d r s (inr i) (inr j) e = one_row rows d.1 r s i j e

-- the entries are as many as the rows
pub as_many : (state : ResidualKey → State) (es : List Entry) (rows : List CertRow) → rows_of state es ≡ map row_as rows → length es ≡ length rows
as_many state [] [] r = refl
as_many state [] (z ∷ rows) r = absurd (cc)
as_many state (e ∷ es) [] r = absurd (cc)
as_many state (e ∷ es) (z ∷ rows) r = ap suc (as_many state es rows (let tail : rows_of state es ≡ map row_as rows = cc in tail))

module _ (live : ResidualKey → Type 0) (state : ResidualKey → State) (same : ResidualKey → ResidualKey → Bool) (tells : TellsStates live state same) where
  apart : (key : ResidualKey) → live key → (es : List Entry) (rows : List CertRow) → AreLive live es → rows_of state es ≡ map row_as rows → Each (λ y. state key ≢ y) (residuals rows) → AllByRecursion (λ k. same key k ≡ false) (keys_of es)
  apart key l [] rows h r d = tt
  apart key l (e ∷ es) [] h r d = absurd (cc)
  apart key l (e ∷ es) (z ∷ rows) h r d = (by (same key e.0) refl, apart key l es rows h.1 (let tail : rows_of state es ≡ map row_as rows = cc in tail) d.1)
    where
      head : (state e.0, e.1) ≡ row_as z
      head = cc

      by : (t : Bool) → same key e.0 ≡ t → same key e.0 ≡ false
      by true s = absurd (d.0 ((tells key e.0 l h.0).0 s ∙ sym (row_again z (state e.0) e.1 head).0))
      by false s = s

  -- keys of rows whose residuals differ
  pub keys_differ : (es : List Entry) (rows : List CertRow) → AreLive live es → rows_of state es ≡ map row_as rows → AllDifferent (residuals rows) → IsDistinct same (keys_of es)
  unfolding IsDistinct
  keys_differ [] rows h r d = tt
  keys_differ (e ∷ es) [] h r d = absurd (cc)
  keys_differ (e ∷ es) (z ∷ rows) h r d =
      let head : (state e.0, e.1) ≡ row_as z = cc in
      let tail : rows_of state es ≡ map row_as rows = cc in
      (apart e.0 h.0 es rows h.1 tail (subst (λ x. Each (λ y. x ≢ y) (residuals rows)) (row_again z (state e.0) e.1 head).0 d.0), keys_differ es rows h.1 tail d.1)
