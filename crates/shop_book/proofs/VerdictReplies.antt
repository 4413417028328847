-- What a verdict by a book replies, from what its parts give.
use Rattle.std.proofs.Common.{◌≡◌, ◌≢◌, ◌↔◌, ℕ, List, [], None, Result, Ok, Err, IfOk, refl, inl, inr}
use Rattle.fare_law.specs.Book.{Book}
use Rattle.fare_law.specs.Lawful.{Lawful}
use Rattle.fare_law.specs.declared.mem.Mem.{Mem}
use Rattle.fare_law.specs.declared.requests.Request.{Request}
use Rattle.fare_law.specs.declared.tickets.Ticket.{Ticket}
use Rattle.fare_verdict.specs.Findings.{AreFindings}
use Rattle.fare_verdict.specs.declared.finding.Finding.{Finding}
use Rattle.lowfare.specs.Verdicts.{TellsLawful, breaches_text}
use Rattle.lowfare.specs.declared.status.Status.TheVariants.{Done, Refused}
use Rattle.shop_book.specs.Asked.{ReadsTicket, asked, judged_case, ticket_of, verdict_of}
use Rattle.shop_book.specs.Replies.{Judged}
use Rattle.lowfare.specs.declared.outcomes.Outcome.{Outcome}
use Rattle.whole_case.specs.Stages.{Reads}
use Rattle.whole_case.specs.Texts.{refusal_text}
use Rattle.whole_case.specs.declared.refusals.LoadFault.{LoadFault}
use Rattle.whole_case.specs.declared.refusals.LoadFault.TheVariants.{Refused as RefusedCase, Mem as NoMemory}
use Rattle.whole_case.specs.declared.refusals.Refusal.{Refusal}
use Rattle.whole_case.specs.declared.verdict.VerdictCase.{VerdictCase}
use Rattle.lowfare.proofs.Ending.{ends_with}
use Rattle.lowfare.proofs.Refusing.{refused_ends}

module _ (b : Book) (request ticket : List ℕ) where
  -- why there is no verdict, as its stages say it
  reads : (fault : LoadFault) → ReadsTicket (Err fault) b request ticket → Reads {A = VerdictCase} (Err fault) (verdict_of b request ticket)
  reads NoMemory h = tt
  reads (RefusedCase refusal) h = h

  module _ (r : Result Outcome Mem) where
    pub refused_verdict : (fault : LoadFault) (refusal : Refusal) → ReadsTicket (Err fault) b request ticket → fault ≡ RefusedCase refusal
        → IfOk r (λ o. o.status ≡ Refused) → IfOk r (λ o. o.text ≡ refusal_text refusal) → IfOk r (λ o. Judged b request ticket o.status o.text)
    refused_verdict fault refusal h is status text = refused_ends (verdict_of b request ticket) (Judged b request ticket) (λ t refused. refused) r fault refusal (reads fault h) is status text

    module _ (q : Request) (t : Ticket) (asks : asked b None request (Ok q)) (spells : ticket_of b ticket (Ok t)) where
      pub lawful_verdict : IfOk r (λ o. o.status ≡ Done) → IfOk r (λ o. TellsLawful (judged_case b q t) o.text) → IfOk r (λ o. Judged b request ticket o.status o.text)
      lawful_verdict status text =
          ends_with r Done (TellsLawful (judged_case b q t)) (Judged b request ticket) (λ text tells. record { found = judged_case b q t; read = (q, asks, (t, spells, refl)); tells = inl tells }) status text

      pub unlawful_verdict : (findings : List Finding) → AreFindings t b q findings → (findings ≡ []) ↔ Lawful t b q → findings ≢ []
          → IfOk r (λ o. o.status ≡ Done) → IfOk r (λ o. o.text ≡ breaches_text findings) → IfOk r (λ o. Judged b request ticket o.status o.text)
      unlawful_verdict findings are lawful some status text =
          ends_with r Done (λ t. t ≡ breaches_text findings) (Judged b request ticket)
          (λ text whole. record { found = judged_case b q t; read = (q, asks, (t, spells, refl)); tells = inr (record { unlawful = λ h. some (lawful.1 h); findings = findings; are = are; whole = whole }) }) status text
