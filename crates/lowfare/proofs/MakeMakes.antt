-- What a summary makes of the case that was made, from what its parts give; and a made case fits the limit of an input.
use Rattle.std.proofs.Common.{◌≡◌, ◌≤◌, ℕ, List, None, Result, IfOk, ap, arith, codes, length, subst, true}
use Rattle.std.specs.Int.{IsInRange}
use Rattle.case_maker.specs.MadeCase.{made_case}
use Rattle.fare_law.specs.declared.mem.Mem.{Mem}
use Rattle.case_maker.specs.Taken.{AreTaken}
use Rattle.search_core.specs.declared.outcome.Answer.{Answer}
use Rattle.whole_case.specs.declared.refusals.Refusal.{Refusal}
use Rattle.whole_case.specs.declared.search.SearchCase.{SearchCase}
use Rattle.lowfare.specs.Answered.{ComesTo}
use Rattle.lowfare.specs.Inputs.{most_bytes}
use Rattle.lowfare.specs.Made.{MakesCase, SumsUp, default_budget}
use Rattle.lowfare.specs.declared.case_search.Searched.{Searched}
use Rattle.lowfare.specs.declared.case_search.Searched.TheVariants.{Answered, Beyond, NoCase}
use Rattle.lowfare.specs.declared.outcomes.Outcome.{Outcome}
use Rattle.lowfare.specs.declared.status.Status.TheVariants.{Done, TooLarge}
use Rattle.lowfare.proofs.Ending.{ends_with}
use Rattle.lowfare.proofs.SearchMakes.{beyond, no_case, within}

module _ (seed size : ℕ) (bytes : List ℕ) (made : bytes ≡ made_case seed size) (s : Searched) (comes : ComesTo None default_budget None bytes s) (r : Result Outcome Mem) where
  of_made : ComesTo None default_budget None (made_case seed size) s
  of_made = subst (λ b. ComesTo None default_budget None b s) made comes

  pub summed_made : (found : SearchCase) (answer : Answer) → s ≡ Answered found answer → IfOk r (λ o. o.status ≡ Done) → IfOk r (λ o. SumsUp seed size found o.text) → IfOk r (λ o. MakesCase seed size true o.status o.text)
  summed_made found answer is status text =
      ends_with r Done (SumsUp seed size found) (MakesCase seed size true) (λ t sums. record { case = within None default_budget None (made_case seed size) s of_made found answer is; sums = sums }) status text

  pub large_made : s ≡ Beyond → IfOk r (λ o. o.status ≡ TooLarge) → IfOk r (λ o. o.text ≡ codes "too large\n") → IfOk r (λ o. MakesCase seed size true o.status o.text)
  large_made is status text =
      ends_with r TooLarge (λ t. t ≡ codes "too large\n") (MakesCase seed size true) (λ t whole. record { case = beyond None default_budget None (made_case seed size) s of_made is; whole = whole }) status text

-- a made case is never refused
pub never_made : {refusal : Refusal} (seed size : ℕ) (bytes : List ℕ) → bytes ≡ made_case seed size → (s : Searched) → ComesTo None default_budget None bytes s → AreTaken → size ≤ 100 → s ≡ NoCase refusal → ⊥
never_made {refusal} seed size bytes made s comes taken small is =
    taken seed size small refusal (no_case None default_budget None (made_case seed size) s (subst (λ b. ComesTo None default_budget None b s) made comes) refusal is).refused

-- a made case fits
pub case_fits : (text : List ℕ) (seed size : ℕ) → ((seed size : ℕ) → size ≤ 100 → length (made_case seed size) ≤ 1000000) → IsInRange 1 100 size → text ≡ made_case seed size → length text ≤ most_bytes
case_fits text seed size short range is =
    let few = short seed size (range.1) in
    omega (arith, few, ap length is)
