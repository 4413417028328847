-- The table of rows whose residuals differ tells the bounds of the rows, and of each residual one.
use Rattle.std.proofs.Common.{◌≡◌, ◌≢◌, ◌∙◌, ℕ, Bool, List, [], ◌∷◌, map, Option, Some, None, option_and_then, sym, refl, ap, subst, inl, inr}
use Rattle.std.specs.Map.{lookup}
use Rattle.certificate.specs.declared.parts.CertRow.{CertRow}
use Rattle.certificate.specs.InOrder.{AllRight}
use Rattle.certificate.specs.RowCheck.{RowRight}
use Rattle.certificate.proofs.ListFacts.{all_pairs, pairs_map}
use Rattle.certificate_check.specs.Tables.{row_as}
use Rattle.certificate_check.proofs.LeastDepartures.{BoundsAre}
use Rattle.certificate_check.proofs.RowTables.{found, not_found, one_row}
use Rattle.fare_law.specs.declared.requests.Request.{Request}
use Rattle.fare_law.specs.Book.{Book}
use Rattle.fare_law.specs.Lists.{AllDifferent, EachPair, IsIn}
use Rattle.graph_walk.specs.Steps.{AreLive, TellsStates, rows_of}
use Rattle.residual_keys.specs.ResidualOrder.{IsStrictOrder, StateBefore}
use Rattle.residual_keys.specs.Residuals.{State}
use Rattle.residual_keys.proofs.LeastOne.{below_all, pairs_rest}
use Rattle.residual_table.specs.declared.key.ResidualKey.{ResidualKey}
use Rattle.search_steps.specs.LeastMoves.{BoundBy}
use Rattle.law_lemmas.proofs.EachOne.{each_weaker}
use Rattle.law_lemmas.proofs.Options.{some_same}

-- what stands in a strict order differs
all_differ : (xs : List State) → IsStrictOrder StateBefore → EachPair StateBefore xs → AllDifferent xs
all_differ [] order h = tt
all_differ (x ∷ xs) order h = (
  each_weaker (StateBefore x) (λ y. x ≢ y) (λ y r e. order.never x (subst (StateBefore x) (sym e) r)) xs (below_all StateBefore order.trans x xs h),
  all_differ xs order (pairs_rest StateBefore x xs h),
)

-- the residuals of rows that are right differ
pub rows_differ : IsStrictOrder StateBefore → (b : Book) (q : Request) (rows : List CertRow) → AllRight (RowRight b q) rows → AllDifferent (map (λ row. row.residual) rows)
rows_differ order b q rows h =
    all_differ (map (λ row. row.residual) rows) order (pairs_map (λ row. row.residual) StateBefore rows (all_pairs (RowRight b q) (λ row next. StateBefore row.residual next.residual) (λ before row r. r.greater) rows h))

no_some : (b : ℕ) → None ≡ Some b → ⊥
no_some b e = cc

-- the key of a row
key_there : (live : ResidualKey → Type 0) (state : ResidualKey → State) (es : List (ResidualKey × Option ℕ)) (rows : List CertRow) → AreLive live es → rows_of state es ≡ map row_as rows → (row : CertRow) → IsIn row rows
    → (key : ResidualKey) × live key × (state key ≡ row.residual)
key_there live state [] [] h r row i = absurd i
key_there live state [] (z ∷ rows) h r row i = absurd (cc)
key_there live state (e ∷ es) [] h r row i = absurd i
key_there live state (e ∷ es) (z ∷ rows) h r row (inl i) =
    let head : (state e.0, e.1) ≡ row_as z = cc in
    (e.0, h.0, ap (λ w. w.0) head ∙ ap (λ w. w.residual) (sym i))
key_there live state (e ∷ es) (z ∷ rows) h r row (inr i) =
    let tail : rows_of state es ≡ map row_as rows = cc in
    key_there live state es rows h.1 tail row i

module _ (live : ResidualKey → Type 0) (state : ResidualKey → State) (same : ResidualKey → ResidualKey → Bool) (tells : TellsStates live state same) (es : List (ResidualKey × Option ℕ)) (rows : List CertRow) (alive : AreLive live es)
    (are : rows_of state es ≡ map row_as rows) (differ_all : AllDifferent (map (λ row. row.residual) rows)) where
  abbrev bound : ResidualKey → Option ℕ
  bound key = option_and_then (λ bound. bound) (lookup (same key) es)

  told : (key : ResidualKey) (rest : ℕ) (o : Option (Option ℕ)) → lookup (same key) es ≡ o → live key → option_and_then (λ bound. bound) o ≡ Some rest → (row : CertRow) × IsIn row rows × (row.residual ≡ state key) × (row.bound ≡ Some rest)
  told key rest None f l e = absurd (no_some rest e)
  told key rest (Some None) f l e = absurd (no_some rest e)
  told key rest (Some (Some more)) f l e = let r = found live state same tells es rows key (Some more) alive are l f in (r.0, r.1, r.2, r.3 ∙ e)

  at_key : (key : ResidualKey) (rest : ℕ) (o : Option (Option ℕ)) → lookup (same key) es ≡ o → live key → (row : CertRow) → IsIn row rows → row.residual ≡ state key → row.bound ≡ Some rest → option_and_then (λ bound. bound) o ≡ Some rest
  at_key key rest None f l row i s b = absurd (not_found live state same tells es rows key alive are l f row i s)
  at_key key rest (Some more) f l row i s b =
      let r = found live state same tells es rows key more alive are l f in
      sym r.3 ∙ ap (λ z. z.bound) (one_row rows differ_all r.0 row r.1 i (r.2 ∙ sym s)) ∙ b

  pub bounds_are : BoundsAre rows (BoundBy live state bound)
  bounds_are x rest = (
    λ h. let r = told h.0 rest (lookup (same h.0) es) refl h.1 h.3 in (r.0, r.1, r.2 ∙ h.2, r.3),
    λ h. let k = key_there live state es rows alive are h.0 h.1 in (k.0, k.1, k.2 ∙ h.2, at_key k.0 rest (lookup (same k.0) es) refl k.1 h.0 h.1 (sym k.2) h.3),
  )

  pub one_bound : (x : State) (m n : ℕ) → BoundBy live state bound x m → BoundBy live state bound x n → m ≡ n
  one_bound x m n h k =
      let r = (bounds_are x m).0 h in
      let s = (bounds_are x n).0 k in
      some_same m n (sym r.3 ∙ ap (λ z. z.bound) (one_row rows differ_all r.0 s.0 r.1 s.1 (r.2 ∙ sym s.2)) ∙ s.3)
