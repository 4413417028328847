-- The moves of a residual whose totals are within a limit.
use Rattle.std.specs.Prelude.{◌≡◌, ℕ, ◌+◌, ◌≤◌, Option, Some, None, unwrap_or}
use Rattle.fare_law.specs.declared.requests.Request.{Request}
use Rattle.fare_law.specs.Book.{Book}
use Rattle.residual_keys.specs.declared.residual.Chosen.{Chosen}
use Rattle.residual_keys.specs.declared.residual.Next.{Next}
use Rattle.residual_keys.specs.declared.residual.Next.TheVariants.{At, Done}
use Rattle.residual_keys.specs.Residuals.{State}
use Rattle.residual_keys.specs.Steps.{IsChosen}

-- what a run costs at least after a move that leaves this: nothing at the end of the journey, and else the bound of the residual, if it has one
abbrev pub rest_of : (State → Option ℕ) → Next → Option ℕ
rest_of bound Done = Some 0
rest_of bound (At x) = bound x

-- at most the limit, if there is one
abbrev pub IsWithin : Option ℕ → ℕ → Type 0
IsWithin None total = Unit {0}
IsWithin (Some limit) total = total ≤ limit

-- What the move leaves is the end or has a bound, and its price and that are within the limit.
pub record CountsWithin (bound : State → Option ℕ) (limit : Option ℕ) (c : Chosen) : Type 0 where
  pub rest : ℕ
  pub rest_is : rest_of bound c.next ≡ Some rest
  pub within : IsWithin limit (c.price + rest)

-- a move of the residual that counts within the limit
abbrev pub IsMoveWithin : Book → Request → State → (State → Option ℕ) → Option ℕ → Chosen → Type 0
IsMoveWithin b q r bound limit c = IsChosen b q r c × CountsWithin bound limit c

-- the price of a move and what a run costs at least after it
abbrev pub total_of : (State → Option ℕ) → Chosen → ℕ
total_of bound c = c.price + unwrap_or (rest_of bound c.next) 0
