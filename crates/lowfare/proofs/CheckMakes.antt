-- What a check makes of its bytes, from what its parts give.
use Rattle.std.proofs.Common.{◌≡◌, ℕ, List, Option, Result, Ok, Err, IfOk, codes, sym, subst}
use Rattle.certificate.specs.CertOf.{YesIsBest}
use Rattle.certificate.specs.Checks.{Checks, FirstFailure}
use Rattle.certificate_check.specs.Verdicts.{IsVerdict}
use Rattle.certificate_check.specs.declared.verdict.Verdict.{Verdict}
use Rattle.certificate_check.specs.declared.verdict.Verdict.TheVariants.{Yes, No as Failing}
use Rattle.fare_law.specs.declared.mem.Mem.{Mem}
use Rattle.program_words.specs.declared.commands.Command.TheVariants.{Check}
use Rattle.whole_case.specs.Cases.{check_case}
use Rattle.whole_case.specs.Stages.{Reads}
use Rattle.whole_case.specs.Texts.{refusal_text}
use Rattle.whole_case.specs.declared.check.CheckCase.{CheckCase}
use Rattle.whole_case.specs.declared.refusals.LoadFault.{LoadFault}
use Rattle.whole_case.specs.declared.refusals.LoadFault.TheVariants.{Refused as RefusedCase}
use Rattle.whole_case.specs.declared.refusals.Refusal.{Refusal}
use Rattle.lowfare.specs.Checked.{Accepts, Fails, TellsYes, no_text}
use Rattle.lowfare.specs.Makes.{Makes}
use Rattle.lowfare.specs.declared.outcomes.Outcome.{Outcome}
use Rattle.lowfare.specs.declared.status.Status.TheVariants.{Done, Refused, No}
use Rattle.lowfare.proofs.Refusing.{is_refused}

module _ (best at : Option ℕ) (bytes : List ℕ) where
  pub refused_made : (r : Result Outcome Mem) (fault : LoadFault) (refusal : Refusal) → Reads {A = CheckCase} (Err fault) (check_case best at bytes) → fault ≡ RefusedCase refusal → IfOk r (λ o. o.status ≡ Refused) → IfOk r (λ o. o.text ≡ refusal_text refusal)
      → IfOk r (λ o. Makes (Check best at) bytes o.status o.text)
  refused_made (Ok o) fault refusal reads is status text =
      subst (λ s. Makes (Check best at) bytes s o.text) (sym status) (is_refused (check_case best at bytes) o.text fault refusal reads is text)
  refused_made (Err e) fault refusal reads is status text = tt

  pub yes_made : (r : Result Outcome Mem) (found : CheckCase) → check_case best at bytes (Ok found) → YesIsBest found.certificate found.book found.request → (verdict : Verdict) → IsVerdict found.certificate found.book found.request verdict → verdict ≡ Yes
      → IfOk r (λ o. o.status ≡ Done) → IfOk r (λ o. o.text ≡ codes "yes\n") → IfOk r (λ o. Makes (Check best at) bytes o.status o.text)
  yes_made (Ok o) found spelled worth verdict told is status text =
      let meets : Checks found.certificate found.book found.request = subst (IsVerdict found.certificate found.book found.request) is told in
      let best_tickets = worth meets in
      let tells : TellsYes found o.text = record { tickets = best_tickets.0; best = best_tickets.1; answers = best_tickets.2; whole = text } in
      let made : Accepts best at bytes o.text = record { case = record { found = found; spelled = spelled; meets = meets }; tells = tells } in
      subst (λ s. Makes (Check best at) bytes s o.text) (sym status) made
  yes_made (Err e) found spelled worth verdict told is status text = tt

  pub no_made : (r : Result Outcome Mem) (found : CheckCase) → check_case best at bytes (Ok found) → (verdict : Verdict) (rule place : ℕ) → IsVerdict found.certificate found.book found.request verdict → verdict ≡ Failing rule place
      → IfOk r (λ o. o.status ≡ No) → IfOk r (λ o. o.text ≡ no_text rule place) → IfOk r (λ o. Makes (Check best at) bytes o.status o.text)
  no_made (Ok o) found spelled verdict rule place told is status text =
      let fails : FirstFailure found.certificate found.book found.request rule place = subst (IsVerdict found.certificate found.book found.request) is told in
      let made : Fails best at bytes o.text = record { case = record { found = found; spelled = spelled; rule = rule; place = place; fails = fails }; whole = text } in
      subst (λ s. Makes (Check best at) bytes s o.text) (sym status) made
  no_made (Err e) found spelled verdict rule place told is status text = tt
