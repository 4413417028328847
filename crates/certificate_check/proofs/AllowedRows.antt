-- The look-up of what an outcome leaves tells whether it allows a row's bound.
use Rattle.std.proofs.Common.{◌≡◌, ◌↔◌, ◌∙◌, ℕ, ◌+◌, Bool, IsTrue, List, map, Option, Some, None, option_map, sym, ap, subst}
use Rattle.std.specs.Map.{lookup}
use Rattle.certificate.specs.BoundCheck.{BoundWithin}
use Rattle.certificate.specs.declared.parts.CertRow.{CertRow}
use Rattle.certificate_check.specs.Bounds.{Allows}
use Rattle.certificate_check.specs.Tables.{row_as}
use Rattle.certificate_check.proofs.RowTables.{found, not_found, one_row}
use Rattle.fare_law.specs.Lists.{AllDifferent}
use Rattle.graph_walk.specs.Steps.{AreLive, TellsStates, rows_of}
use Rattle.residual_keys.specs.Residuals.{State}
use Rattle.residual_table.specs.declared.key.ResidualKey.{ResidualKey}
use Rattle.law_lemmas.proofs.Options.{some_same}

none_bound : (b : ℕ) → None ≡ Some b → ⊥
none_bound b e = cc

module _ (live : ResidualKey → Type 0) (state : ResidualKey → State) (same : ResidualKey → ResidualKey → Bool) (tells : TellsStates live state same) (es : List (ResidualKey × Option ℕ)) (rows : List CertRow) (alive : AreLive live es)
    (are : rows_of state es ≡ map row_as rows) (differ_all : AllDifferent (map (λ row. row.residual) rows)) (row : CertRow) (next : Option ResidualKey) (key : ResidualKey) where
  pub allows_told : (further price : ℕ) (result : Bool) → next ≡ Some key → live key → lookup (same key) es ≡ Some (Some further) → IsTrue result ↔ BoundWithin row (price + further) → IsTrue result ↔ Allows rows row (option_map state next) price
  allows_told further price result n l f told =
      let r = found live state same tells es rows key (Some further) alive are l f in
      subst (λ z. IsTrue result ↔ Allows rows row (option_map state z) price) (sym n) (
        λ t. (r.0, r.1, r.2, λ more e. subst (λ z. BoundWithin row (price + z)) (some_same further more (sym r.3 ∙ e)) (told.0 t)),
        λ h. told.1 (h.3 further (ap (λ z. z.bound) (one_row rows differ_all h.0 r.0 h.1 r.1 (h.2 ∙ sym r.2)) ∙ r.3)),
      )

  pub allows_free : (price : ℕ) → next ≡ Some key → live key → lookup (same key) es ≡ Some None → Allows rows row (option_map state next) price
  allows_free price n l f =
      let r = found live state same tells es rows key None alive are l f in
      subst (λ z. Allows rows row (option_map state z) price) (sym n) (r.0, r.1, r.2, λ more e. absurd (none_bound more (sym r.3 ∙ e)))

  pub allows_never : (price : ℕ) → next ≡ Some key → live key → lookup (same key) es ≡ None → Allows rows row (option_map state next) price → ⊥
  allows_never price n l f a = let h = subst (λ z. Allows rows row (option_map state z) price) n a in not_found live state same tells es rows key alive are l f h.0 h.1 h.2
