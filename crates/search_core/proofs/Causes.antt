-- Why a search has no answer, and that it is one of so many residuals.
use Rattle.std.proofs.Common.{◌≡◌, ℕ, None, Result, Ok, Err, IfErr, IsErr, IsErrAnd, subst, sym}
use Rattle.fare_law.specs.declared.requests.Request.{Request}
use Rattle.fare_law.specs.Book.{Book}
use Rattle.fare_law.specs.Requests.{judged, known_places}
use Rattle.pricing_graph.specs.declared.fault.GraphFault.{GraphFault}
use Rattle.pricing_graph.specs.declared.fault.GraphFault.TheVariants.{TooLarge, Mem}
use Rattle.pricing_graph.specs.Graphs.{IsTooLarge}
use Rattle.residual_keys.specs.Searches.{ReachesMoreThan}
use Rattle.search_core.specs.Answers.{HasCause, Searchable}
use Rattle.search_core.specs.declared.outcome.SearchFault.{SearchFault}
use Rattle.search_core.specs.Graphs.{fault_as}

module _ (b : Book) (q : Request) (budget : ℕ) (right : judged (known_places b) q ≡ None) where
  pub searchable : (ReachesMoreThan budget b q → ⊥) → Searchable b q budget
  searchable small = record { right = right; small = small }

  cause_of : (fault : GraphFault) → IsTooLarge b q budget fault → HasCause b q budget (fault_as fault)
  cause_of (TooLarge more) h = (right, h.1)
  cause_of Mem h = tt

  -- what handed on the fault of a graph has its cause
  pub caused : {A : Type 0} (r : Result A SearchFault) (fault : GraphFault) → IsErr r × IsErrAnd r (λ e. e ≡ fault_as fault) → IsTooLarge b q budget fault → IfErr r (HasCause b q budget)
  caused (Ok a) fault h large = absurd h.1
  caused (Err e) fault h large = subst (HasCause b q budget) (sym h.1) (cause_of fault large)
