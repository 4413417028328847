-- What the bytes of a search are: a case within the budget or beyond it.
use Rattle.std.specs.Prelude.{ℕ, List, Option, Ok}
use Rattle.residual_keys.specs.Searches.{ReachesMoreThan}
use Rattle.whole_case.specs.Cases.{search_case}
use Rattle.whole_case.specs.declared.search.SearchCase.{SearchCase}

-- A case, of which no more residuals are reached than the budget.
pub record FitsBudget (best : Option ℕ) (budget : ℕ) (at : Option ℕ) (bytes : List ℕ) : Type 0 where
  pub found : SearchCase
  pub spelled : search_case best at bytes (Ok found)
  pub few : ReachesMoreThan budget found.book found.request → ⊥

-- A case, of which more residuals are reached than the budget.
pub record ExceedsBudget (best : Option ℕ) (budget : ℕ) (at : Option ℕ) (bytes : List ℕ) : Type 0 where
  pub found : SearchCase
  pub spelled : search_case best at bytes (Ok found)
  pub many : ReachesMoreThan budget found.book found.request
