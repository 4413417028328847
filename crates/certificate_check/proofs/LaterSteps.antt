-- What steps that were asked keep: book and request, and what the keys of a table stand for.
use Rattle.std.proofs.Common.{◌≡◌, ◌∙◌, ◌<◌, refl, subst, List, length, get_or, Option, ℕ}
use Rattle.certificate.specs.declared.parts.CertRow.{CertRow}
use Rattle.certificate_check.specs.Tables.{HasRows, IsLater}
use Rattle.certificate_check.proofs.RowTables.{entry_at}
use Rattle.fare_law.specs.declared.requests.Request.{Request}
use Rattle.fare_law.specs.Book.{Book}
use Rattle.graph_walk.specs.Steps.{KeepsStates}
use Rattle.graph_walk.proofs.RowFacts.{live_rows, same_rows}
use Rattle.residual_table.specs.declared.key.ResidualKey.{ResidualKey}
use Rattle.search_steps.specs.declared.steps.SearchSteps.{SearchSteps}
use Rattle.search_steps.specs.Keys.{live, state}

pub same_steps : (s : SearchSteps) → IsLater s s
same_steps s = record { case = record { book = refl; request = refl }; keeps = λ k h. (h, refl) }

pub later_still : (s t u : SearchSteps) → IsLater s t → IsLater t u → IsLater s u
later_still s t u h k = record {
  case = record { book = k.case.book ∙ h.case.book; request = k.case.request ∙ h.case.request };
  keeps = λ key l. let a = h.keeps key l in let d = k.keeps key a.0 in (d.0, d.1 ∙ a.1);
}

-- the keys of a table stand for the rows still
pub has_still : (s t : SearchSteps) → KeepsStates (live s) (live t) (state s) (state t) → (es : List (ResidualKey × Option ℕ)) (rows : List CertRow) → HasRows s es rows → HasRows t es rows
has_still s t keeps es rows h = record {
  live = live_rows (live s) (live t) (state s) (state t) keeps es h.live;
  same = same_rows (live s) (live t) (state s) (state t) keeps es h.live ∙ h.same;
}

-- and the entry at a row's place has a key of the row's residual
pub entry_still : (s t : SearchSteps) → KeepsStates (live s) (live t) (state s) (state t) → (es : List (ResidualKey × Option ℕ)) (rows : List CertRow) → HasRows s es rows → (i : ℕ) (e : ResidualKey × Option ℕ) (d : CertRow)
    → i < length rows → live t (get_or es i e).0 × (state t (get_or es i e).0 ≡ (get_or rows i d).residual)
entry_still s t keeps es rows h i e d lt =
    let has = has_still s t keeps es rows h in
    entry_at (live t) (state t) es rows i e d has.live has.same lt

-- what is said of one book and request, of the same
pub same_said : (P : Book → Request → Type 0) (b c : Book) (q r : Request) → c ≡ b → r ≡ q → P c r → P b q
same_said P b c q r e f h = subst (λ z. P b z) f (subst (λ z. P z r) e h)
