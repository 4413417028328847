-- What a search of a book replies, from what its parts give.
use Rattle.std.proofs.Common.{◌≡◌, ℕ, List, Option, None, Result, Ok, Err, IfOk, codes, subst}
use Rattle.fare_law.specs.Book.{Book}
use Rattle.fare_law.specs.declared.mem.Mem.{Mem}
use Rattle.fare_law.specs.declared.requests.Request.{Request}
use Rattle.lowfare.specs.Searches.{TellsBest}
use Rattle.lowfare.specs.declared.status.Status.TheVariants.{Done, Refused, TooLarge}
use Rattle.residual_keys.specs.Searches.{ReachesMoreThan}
use Rattle.search_core.specs.Answers.{HasCause}
use Rattle.search_core.specs.declared.outcome.SearchFault.{SearchFault}
use Rattle.search_core.specs.declared.outcome.SearchFault.TheVariants.{TooLarge as Beyond}
use Rattle.shop_book.specs.Asked.{asked, case_of}
use Rattle.shop_book.specs.Replies.{Searched}
use Rattle.lowfare.specs.declared.outcomes.Outcome.{Outcome}
use Rattle.whole_case.specs.Stages.{Reads}
use Rattle.whole_case.specs.Texts.{refusal_text}
use Rattle.whole_case.specs.declared.refusals.LoadFault.{LoadFault}
use Rattle.whole_case.specs.declared.refusals.LoadFault.TheVariants.{Refused as RefusedCase}
use Rattle.whole_case.specs.declared.refusals.Refusal.{Refusal}
use Rattle.lowfare.proofs.Ending.{ends_with}
use Rattle.lowfare.proofs.Refusing.{refused_ends}

module _ (b : Book) (best : Option ℕ) (budget : ℕ) (bytes : List ℕ) (r : Result Outcome Mem) where
  pub refused_search : (fault : LoadFault) (refusal : Refusal) → Reads {A = Request} (Err fault) (asked b best bytes) → fault ≡ RefusedCase refusal
      → IfOk r (λ o. o.status ≡ Refused) → IfOk r (λ o. o.text ≡ refusal_text refusal) → IfOk r (λ o. Searched b best budget bytes o.status o.text)
  refused_search fault refusal reads is status text = refused_ends (asked b best bytes) (Searched b best budget bytes) (λ t h. h) r fault refusal reads is status text

  module _ (q : Request) (is : asked b best bytes (Ok q)) where
    pub told_search : (ReachesMoreThan budget b q → ⊥) → IfOk r (λ o. o.status ≡ Done) → IfOk r (λ o. TellsBest (case_of b q) o.text) → IfOk r (λ o. Searched b best budget bytes o.status o.text)
    told_search few status text =
        ends_with r Done (TellsBest (case_of b q)) (Searched b best budget bytes) (λ t tells. record { request = q; asked = is; few = few; tells = tells }) status text

    pub large_search : (fault : SearchFault) → HasCause b q budget fault → fault ≡ Beyond → IfOk r (λ o. o.status ≡ TooLarge) → IfOk r (λ o. o.text ≡ codes "too large\n") → IfOk r (λ o. Searched b best budget bytes o.status o.text)
    large_search fault cause large status text =
        let many = (subst (HasCause b q budget) large cause).1 in
        ends_with r TooLarge (λ t. t ≡ codes "too large\n") (Searched b best budget bytes) (λ t whole. record { request = q; asked = is; many = many; whole = whole }) status text
