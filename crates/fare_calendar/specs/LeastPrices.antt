-- What the first run from the root of a request costs.
use Rattle.std.specs.Prelude.{◌≡◌, ℕ, [], ◌∷◌, Option, Some, None}
use Rattle.fare_law.specs.Book.{Book}
use Rattle.fare_law.specs.declared.requests.Request.{Request}
use Rattle.residual_keys.specs.Searches.{BestRuns, Drawn}

-- The first run costs this.
pub record FirstRunCosts (b : Book) (q : Request) (price : ℕ) : Type 0 where
  pub run : Drawn
  pub best : BestRuns b q 1 (run ∷ [])
  pub costs : run.price ≡ price

-- the price of the first run, or none where there is no run
abbrev pub IsLeastPrice : Book → Request → Option ℕ → Type 0
IsLeastPrice b q None = BestRuns b q 1 []
IsLeastPrice b q (Some price) = FirstRunCosts b q price
