-- The least moves of residuals that were drawn in a check.
use Rattle.std.specs.Prelude.{◌≡◌, ℕ, ◌≤◌, Bool, true, List, map, slice_get, Some}
use Rattle.certificate.specs.declared.parts.CertRow.{CertRow}
use Rattle.certificate_check.specs.declared.drawings.Drawing.{Drawing}
use Rattle.fare_law.specs.declared.requests.Request.{Request}
use Rattle.fare_law.specs.Book.{Book}
use Rattle.fare_law.specs.Lists.{Each, IsIn}
use Rattle.residual_keys.specs.Residuals.{State}
use Rattle.residual_table.specs.declared.key.ResidualKey.{ResidualKey}
use Rattle.search_steps.specs.declared.least.LeastMove.{LeastMove}
use Rattle.search_steps.specs.declared.steps.SearchSteps.{SearchSteps}
use Rattle.search_steps.specs.Keys.{live, state}
use Rattle.search_steps.specs.LeastMoves.{AreLeastMoves, least_as}

-- the bound of a residual's row
abbrev pub BoundIn : List CertRow → State → ℕ → Type 0
BoundIn rows x rest = (row : CertRow) × IsIn row rows × (row.residual ≡ x) × (row.bound ≡ Some rest)

-- The moves are the least of a residual under the bounds of rows, as many as are wanted, and their keys stand for what they leave.
pub record AreDrawn (b : Book) (q : Request) (rows : List CertRow) (x : State) (wanted : ℕ) (ms : List (LeastMove ResidualKey)) : Type 0 where
  pub left : ResidualKey → State
  pub least : AreLeastMoves b q (BoundIn rows) x wanted (map (least_as left) ms)

-- The moves are those of the residual that the key stands for.
pub record IsDrawing (steps : SearchSteps) (rows : List CertRow) (d : Drawing) : Type 0 where
  pub live : live steps d.key
  pub drawn : AreDrawn steps.case.book.now steps.case.request.now rows (state steps d.key) d.wanted d.moves

abbrev pub AreDrawings : SearchSteps → List CertRow → List Drawing → Type 0
AreDrawings steps rows ds = Each (IsDrawing steps rows) ds

-- At this place stands a drawing whose key is this one, by its test, of as many moves as are wanted.
pub record IsEnough (test : ResidualKey → ResidualKey → Bool) (key : ResidualKey) (wanted : ℕ) (ds : List Drawing) (place : ℕ) : Type 0 where
  pub drawing : Drawing
  pub stands : slice_get ds place ≡ Some drawing
  pub same : test key drawing.key ≡ true
  pub enough : wanted ≤ drawing.wanted

-- At this place stand the least moves of a residual, at least as many as are wanted.
pub record HasDrawing (b : Book) (q : Request) (rows : List CertRow) (x : State) (wanted : ℕ) (ds : List Drawing) (place : ℕ) : Type 0 where
  pub drawing : Drawing
  pub stands : slice_get ds place ≡ Some drawing
  pub enough : wanted ≤ drawing.wanted
  pub drawn : AreDrawn b q rows x drawing.wanted drawing.moves
