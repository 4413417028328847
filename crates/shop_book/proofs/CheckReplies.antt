-- What a check against a book replies, from what its parts give.
use Rattle.std.proofs.Common.{◌≡◌, ℕ, List, None, Result, Ok, Err, IfOk, codes, refl, subst}
use Rattle.certificate.specs.CertOf.{YesIsBest}
use Rattle.certificate.specs.Checks.{Checks, FirstFailure}
use Rattle.certificate.specs.declared.parts.Certificate.{Certificate}
use Rattle.certificate_check.specs.Verdicts.{IsVerdict}
use Rattle.certificate_check.specs.declared.verdict.Verdict.{Verdict}
use Rattle.certificate_check.specs.declared.verdict.Verdict.TheVariants.{Yes, No as Failing}
use Rattle.fare_law.specs.Book.{Book}
use Rattle.fare_law.specs.declared.mem.Mem.{Mem}
use Rattle.fare_law.specs.declared.requests.Request.{Request}
use Rattle.lowfare.specs.Checked.{no_text}
use Rattle.lowfare.specs.declared.status.Status.TheVariants.{Done, Refused, No}
use Rattle.shop_book.specs.Asked.{ReadsBoth, asked, certificate_of, check_of}
use Rattle.shop_book.specs.Replies.{Checked}
use Rattle.lowfare.specs.declared.outcomes.Outcome.{Outcome}
use Rattle.whole_case.specs.Stages.{Reads}
use Rattle.whole_case.specs.Texts.{refusal_text}
use Rattle.whole_case.specs.declared.check.CheckCase.{CheckCase}
use Rattle.whole_case.specs.declared.refusals.LoadFault.{LoadFault}
use Rattle.whole_case.specs.declared.refusals.LoadFault.TheVariants.{Refused as RefusedCase, Mem as NoMemory}
use Rattle.whole_case.specs.declared.refusals.Refusal.{Refusal}
use Rattle.lowfare.proofs.Ending.{ends_with}
use Rattle.lowfare.proofs.Refusing.{refused_ends}

module _ (b : Book) (request certificate : List ℕ) where
  -- why there is no check, as its stages say it
  reads : (fault : LoadFault) → ReadsBoth (Err fault) b request certificate → Reads {A = CheckCase} (Err fault) (check_of b request certificate)
  reads (RefusedCase refusal) h = h
  reads NoMemory h = tt

  module _ (r : Result Outcome Mem) where
    pub refused_check : (fault : LoadFault) (refusal : Refusal) → ReadsBoth (Err fault) b request certificate → fault ≡ RefusedCase refusal
        → IfOk r (λ o. o.status ≡ Refused) → IfOk r (λ o. o.text ≡ refusal_text refusal) → IfOk r (λ o. Checked b request certificate o.status o.text)
    refused_check fault refusal h is status text = refused_ends (check_of b request certificate) (Checked b request certificate) (λ t refused. refused) r fault refusal (reads fault h) is status text

    module _ (q : Request) (c : Certificate) (asks : asked b None request (Ok q)) (spells : certificate_of certificate (Ok c)) where
      abbrev found : CheckCase
      found = record { book = b; request = q; certificate = c }

      abbrev given : check_of b request certificate (Ok found)
      given = (q, asks, (c, spells, refl))

      pub yes_check : YesIsBest c b q → (verdict : Verdict) → IsVerdict c b q verdict → verdict ≡ Yes → IfOk r (λ o. o.status ≡ Done) → IfOk r (λ o. o.text ≡ codes "yes\n") → IfOk r (λ o. Checked b request certificate o.status o.text)
      yes_check worth verdict told is status text =
          let meets : Checks c b q = subst (IsVerdict c b q) is told in
          let best = worth meets in
          ends_with r Done (λ t. t ≡ codes "yes\n") (Checked b request certificate)
          (λ t whole. record { found = found; read = given; meets = meets; tells = record { tickets = best.0; best = best.1; answers = best.2; whole = whole } }) status text

      pub no_check : (verdict : Verdict) (rule place : ℕ) → IsVerdict c b q verdict → verdict ≡ Failing rule place → IfOk r (λ o. o.status ≡ No) → IfOk r (λ o. o.text ≡ no_text rule place) → IfOk r (λ o. Checked b request certificate o.status o.text)
      no_check verdict rule place told is status text =
          let fails : FirstFailure c b q rule place = subst (IsVerdict c b q) is told in
          ends_with r No (λ t. t ≡ no_text rule place) (Checked b request certificate)
          (λ t whole. record { found = found; read = given; rule = rule; place = place; fails = fails; whole = whole }) status text
