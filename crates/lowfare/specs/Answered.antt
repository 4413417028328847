-- What the search of a case comes to.
use Rattle.std.specs.Prelude.{◌≡◌, ℕ, List, Option, None, Ok, Err}
use Rattle.certificate.specs.Checks.{Checks}
use Rattle.fare_law.specs.Requests.{judged, known_places}
use Rattle.lowfare.specs.Cases.{ExceedsBudget}
use Rattle.lowfare.specs.declared.case_search.Searched.{Searched}
use Rattle.lowfare.specs.declared.case_search.Searched.TheVariants.{Answered, Beyond, NoCase}
use Rattle.residual_keys.specs.Searches.{ReachesMoreThan}
use Rattle.search_core.specs.Answers.{IsAnswer}
use Rattle.search_core.specs.declared.outcome.Answer.{Answer}
use Rattle.whole_case.specs.Cases.{search_case}
use Rattle.whole_case.specs.declared.search.SearchCase.{SearchCase}

-- This is the answer of a case, whose request is right, and of which no more residuals are reached than the budget.
pub record HasAnswer (budget : ℕ) (found : SearchCase) (answer : Answer) : Type 0 where
  pub right : judged (known_places found.book) found.request ≡ None
  pub few : ReachesMoreThan budget found.book found.request → ⊥
  pub is : IsAnswer found.book found.request answer
  pub meets : Checks answer.certificate found.book found.request

-- what the bytes come to
abbrev pub ComesTo : Option ℕ → ℕ → Option ℕ → List ℕ → Searched → Type 0
ComesTo best budget at bytes (Answered found answer) = search_case best at bytes (Ok found) × HasAnswer budget found answer
ComesTo best budget at bytes Beyond = ExceedsBudget best budget at bytes
ComesTo best budget at bytes (NoCase refusal) = search_case best at bytes (Err refusal)
