-- What a search makes of its bytes, from what its parts give.
use Rattle.std.proofs.Common.{◌≡◌, ℕ, List, Option, None, Some, Result, IfOk, codes, sym, subst, ◌∙◌}
use Rattle.fare_law.specs.Book.{Book}
use Rattle.fare_law.specs.Requests.{judged, known_places}
use Rattle.fare_law.specs.declared.mem.Mem.{Mem}
use Rattle.fare_law.specs.declared.requests.Request.{Request}
use Rattle.fare_law.specs.declared.requests.Why.{Why}
use Rattle.program_words.specs.declared.commands.Command.TheVariants.{Search}
use Rattle.search_core.specs.Answers.{HasCause}
use Rattle.search_core.specs.declared.outcome.Answer.{Answer}
use Rattle.search_core.specs.declared.outcome.SearchFault.{SearchFault}
use Rattle.search_core.specs.declared.outcome.SearchFault.TheVariants.{BadRequest}
use Rattle.whole_case.specs.Cases.{search_case}
use Rattle.whole_case.specs.Texts.{refusal_text}
use Rattle.whole_case.specs.declared.refusals.Refusal.{Refusal}
use Rattle.whole_case.specs.declared.search.SearchCase.{SearchCase}
use Rattle.lowfare.specs.Answered.{ComesTo}
use Rattle.lowfare.specs.Cases.{ExceedsBudget, FitsBudget}
use Rattle.lowfare.specs.Makes.{Makes}
use Rattle.lowfare.specs.Refusals.{HasRefusal}
use Rattle.lowfare.specs.Searches.{TellsBest}
use Rattle.lowfare.specs.declared.case_search.Searched.{Searched}
use Rattle.lowfare.specs.declared.case_search.Searched.TheVariants.{Answered, Beyond, NoCase}
use Rattle.lowfare.specs.declared.outcomes.Outcome.{Outcome}
use Rattle.lowfare.specs.declared.status.Status.TheVariants.{Done, Refused, TooLarge}
use Rattle.lowfare.proofs.Ending.{ends_with}

module _ (best : Option ℕ) (budget : ℕ) (at : Option ℕ) (bytes : List ℕ) (s : Searched) (comes : ComesTo best budget at bytes s) where
  -- the case is within the budget
  abbrev pub within : (found : SearchCase) (answer : Answer) → s ≡ Answered found answer → FitsBudget best budget at bytes
  within found answer is =
      let h = subst (ComesTo best budget at bytes) is comes in
      record { found = found; spelled = h.0; few = h.1.few }

  -- it is beyond the budget
  pub beyond : s ≡ Beyond → ExceedsBudget best budget at bytes
  beyond is = subst (ComesTo best budget at bytes) is comes

  -- there is no case
  abbrev pub no_case : (refusal : Refusal) → s ≡ NoCase refusal → HasRefusal (search_case best at bytes)
  no_case refusal is = record { refusal = refusal; refused = subst (ComesTo best budget at bytes) is comes }

  module _ (r : Result Outcome Mem) where
    pub done_made : (found : SearchCase) (answer : Answer) → s ≡ Answered found answer → IfOk r (λ o. o.status ≡ Done) → IfOk r (λ o. TellsBest found o.text) → IfOk r (λ o. Makes (Search best budget at) bytes o.status o.text)
    done_made found answer is status text = ends_with r Done (TellsBest found) (Makes (Search best budget at) bytes) (λ t tells. record { case = within found answer is; tells = tells }) status text

    pub large_made : s ≡ Beyond → IfOk r (λ o. o.status ≡ TooLarge) → IfOk r (λ o. o.text ≡ codes "too large\n") → IfOk r (λ o. Makes (Search best budget at) bytes o.status o.text)
    large_made is status text = ends_with r TooLarge (λ t. t ≡ codes "too large\n") (Makes (Search best budget at) bytes) (λ t whole. record { case = beyond is; whole = whole }) status text

    pub refused_made : (refusal : Refusal) → s ≡ NoCase refusal → IfOk r (λ o. o.status ≡ Refused) → IfOk r (λ o. o.text ≡ refusal_text refusal) → IfOk r (λ o. Makes (Search best budget at) bytes o.status o.text)
    refused_made refusal is status text = ends_with r Refused (λ t. t ≡ refusal_text refusal) (Makes (Search best budget at) bytes) (λ t whole. record { cause = no_case refusal is; whole = whole }) status text

-- a search finds no reason to refuse a right request
pub right_refused : (b : Book) (q : Request) (budget : ℕ) (fault : SearchFault) (why : Why) → judged (known_places b) q ≡ None → HasCause b q budget fault → fault ≡ BadRequest why → ⊥
right_refused b q budget fault why right cause is = apart (sym right ∙ subst (HasCause b q budget) is cause)
  where
    apart : ◌≡◌ {A = Option Why} None (Some why) → ⊥
    apart e = cc
