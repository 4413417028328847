-- The row check: the rows ascend, fit the request, and have the root among them.
use Rattle.std.specs.Prelude.{◌≡◌, ◌⊎◌, ℕ, List, [], slice_get, Some, None}
use Rattle.certificate.specs.declared.parts.CertRow.{CertRow}
use Rattle.certificate.specs.InOrder.{AllRight, FirstWrong, IfLast}
use Rattle.fare_law.specs.declared.requests.Request.{Request}
use Rattle.fare_law.specs.Book.{Book}
use Rattle.fare_law.specs.Lists.{IsIn}
use Rattle.flight_paths.specs.declared.positions.Position.{Position}
use Rattle.flight_paths.specs.Positions.{Fits, before_slice}
use Rattle.residual_keys.specs.ResidualOrder.{StateBefore}
use Rattle.residual_keys.specs.Residuals.{State, no_part}

-- The residual is greater than that of the row before, and its position is one of the request.
pub record RowRight (b : Book) (q : Request) (before : List CertRow) (row : CertRow) : Type 0 where
  pub greater : IfLast (λ last. StateBefore last.residual row.residual) before
  pub fits : Fits b q.slices row.residual.at

-- where a search begins: before the first slice, with no unit open and nothing asked of the ticket
abbrev pub IsRoot : Book → Request → State → Type 0
IsRoot b q r = (at : Position) × (before_slice b 0 (slice_get q.slices 0) None ≡ Some at) × (r ≡ record { at = at; units = []; part = no_part })

abbrev pub RootIsRow : Book → Request → List CertRow → Type 0
RootIsRow b q rows = (row : CertRow) × IsIn row rows × IsRoot b q row.residual

abbrev pub RowsHold : Book → Request → List CertRow → Type 0
RowsHold b q rows = AllRight (RowRight b q) rows × RootIsRow b q rows

-- The first row that isn't right, or 0 where each row is right and none is the root.
abbrev pub RowsFail : Book → Request → List CertRow → ℕ → Type 0
RowsFail b q rows place = FirstWrong (RowRight b q) rows place ⊎ (AllRight (RowRight b q) rows × (RootIsRow b q rows → ⊥) × (place ≡ 0))
