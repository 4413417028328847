-- The bound of a row, by what its moves leave at their prices.
use Rattle.std.specs.Prelude.{◌≡◌, ℕ, ◌+◌, List, Option, Some, None}
use Rattle.certificate.specs.BoundCheck.{BoundWithin}
use Rattle.certificate.specs.declared.parts.CertRow.{CertRow}
use Rattle.fare_law.specs.declared.requests.Request.{Request}
use Rattle.fare_law.specs.Book.{Book}
use Rattle.fare_law.specs.Lists.{IsIn}
use Rattle.residual_keys.specs.Residuals.{State}
use Rattle.search_steps.specs.Leads.{leads_of}

-- What is left at this price allows the row's bound: at the end it is at most the price, and else what is left is a row, and where that has a bound, it is at most the price and that.
abbrev pub Allows : List CertRow → CertRow → Option State → ℕ → Type 0
Allows rows row None price = BoundWithin row price
Allows rows row (Some x) price = (next : CertRow) × IsIn next rows × (next.residual ≡ x) × ((further : ℕ) → next.bound ≡ Some further → BoundWithin row (price + further))

-- whatever a move of the row leaves allows its bound
abbrev pub IsAllowed : Book → Request → List CertRow → CertRow → Type 0
IsAllowed b q rows row = (left : Option State) (price : ℕ) → leads_of b q row.residual left price → Allows rows row left price
