-- What a verdict makes of its bytes, from what its parts give.
use Rattle.std.proofs.Common.{◌≡◌, ◌≢◌, ◌↔◌, ◌++◌, ℕ, List, [], Option, None, Some, Result, Ok, IfOk, codes, decimal, sum_by, refl, sym, ◌∙◌, inl, inr}
use Rattle.fare_law.specs.Best.{Costs}
use Rattle.fare_law.specs.Lawful.{Lawful}
use Rattle.fare_law.specs.Parts.{price_of}
use Rattle.fare_law.specs.declared.mem.Mem.{Mem}
use Rattle.fare_law.specs.declared.requests.Request.{Request}
use Rattle.fare_verdict.specs.Findings.{AreFindings}
use Rattle.fare_verdict.specs.declared.finding.Finding.{Finding}
use Rattle.program_words.specs.declared.commands.Command.TheVariants.{Verdict}
use Rattle.whole_case.specs.Cases.{verdict_case}
use Rattle.whole_case.specs.declared.verdict.VerdictCase.{VerdictCase}
use Rattle.lowfare.specs.Makes.{Makes}
use Rattle.lowfare.specs.Verdicts.{TellsLawful, breaches_text}
use Rattle.lowfare.specs.declared.outcomes.Outcome.{Outcome}
use Rattle.lowfare.specs.declared.status.Status.TheVariants.{Done}
use Rattle.lowfare.proofs.Ending.{ends_with}

module _ (found : VerdictCase) (price : Option ℕ) (lawful : Lawful found.ticket found.book found.request) (known : (q : Request) (cost : ℕ) → Costs found.ticket found.book q cost → price ≡ Some cost) where
  abbrev sum : ℕ
  sum = sum_by (λ part. price_of part.flights part.piece) lawful.0

  priced : price ≡ Some sum
  priced = known found.request sum (lawful.0, lawful.1, refl)

  -- a lawful ticket has a price
  pub has_price : price ≡ None → ⊥
  has_price none = apart (sym none ∙ priced)
    where
      apart : ◌≡◌ {A = Option ℕ} None (Some sum) → ⊥
      apart e = cc

  pub tells_lawful : (cost : ℕ) (text : List ℕ) → price ≡ Some cost → text ≡ codes "lawful price " ++ (decimal cost ++ codes "\n") → TellsLawful found text
  tells_lawful cost text is whole = record { lawful = lawful; price = cost; costs = (lawful.0, lawful.1, same (sym is ∙ priced)); whole = whole }
    where
      same : Some cost ≡ Some sum → cost ≡ sum
      same e = cc

module _ (at : Option ℕ) (bytes : List ℕ) (r : Result Outcome Mem) (found : VerdictCase) (spelled : verdict_case at bytes (Ok found)) where
  pub lawful_made : IfOk r (λ o. o.status ≡ Done) → IfOk r (λ o. TellsLawful found o.text) → IfOk r (λ o. Makes (Verdict at) bytes o.status o.text)
  lawful_made is text = ends_with r Done (TellsLawful found) (Makes (Verdict at) bytes) (λ t tells. record { case = record { found = found; spelled = spelled }; tells = inl tells }) is text

  pub unlawful_made : (findings : List Finding) → AreFindings found.ticket found.book found.request findings → (findings ≡ []) ↔ Lawful found.ticket found.book found.request → findings ≢ []
      → IfOk r (λ o. o.status ≡ Done) → IfOk r (λ o. o.text ≡ breaches_text findings) → IfOk r (λ o. Makes (Verdict at) bytes o.status o.text)
  unlawful_made findings are lawful some is text =
      ends_with r Done (λ t. t ≡ breaches_text findings) (Makes (Verdict at) bytes)
      (λ t whole. record { case = record { found = found; spelled = spelled }; tells = inr (record { unlawful = λ h. some (lawful.1 h); findings = findings; are = are; whole = whole }) }) is text
