use Rattle.std.proofs.Common.{◌≡◌, ◌↔◌, [], List, refl, sym, subst}
use Rattle.std.proofs.lemmas.Result.{IfOk-weaker}
use Rattle.fare_law.specs.Lawful.{Lawful}
use Rattle.fare_law.specs.Lists.{OnFirst}
use Rattle.ticket_whole.specs.Breaches.{FirstBreach}
use Rattle.ticket_whole.specs.declared.breach.Breach.{Breach}
use Rattle.fare_verdict.specs.declared.finding.Finding.{Finding}
use Rattle.fare_verdict.specs.Findings.{AreFindings}
use Rattle.fare_verdict.proofs.judging.verdict.Goals as goal

pub returns-in-Ok-clause-findings : goal.returns-in-Ok-clause-findings
returns-in-Ok-clause-findings c =
    let t = c.args.ticket.now in
    let b = c.args.book.now in
    let q = c.args.request.now in
    subst (λ xs. AreFindings t b q xs) (sym c.new.ensures) (c.lawful_without_findings.ensures t b q (c.in-Ok.ensures.lawful.0 refl))

pub returns-in-Ok-clause-first : goal.returns-in-Ok-clause-first
returns-in-Ok-clause-first c breach first =
    let t = c.args.ticket.now in
    let b = c.args.book.now in
    let q = c.args.request.now in
    let are : AreFindings t b q c.new.result = subst (λ xs. AreFindings t b q xs) (sym c.new.ensures) (c.lawful_without_findings.ensures t b q (c.in-Ok.ensures.lawful.0 refl)) in
    c.first_finding_is_first_breach.ensures t b q c.new.result breach are first

-- a ticket with a breach has a finding
some_found : (findings : List Finding) (P : Finding → Type 0) → OnFirst P findings → findings ≡ [] → ⊥
some_found findings P h e = subst (λ xs. OnFirst P xs) e h

pub returns-in-Err-clause-lawful : goal.returns-in-Err-clause-lawful
returns-in-Err-clause-lawful c =
    let t = c.args.ticket.now in
    let b = c.args.book.now in
    let q = c.args.request.now in
    let breach = c.in-Err.field-0 in
    IfOk-weaker c.all_findings.result (λ findings. AreFindings t b q findings) (λ findings. (findings ≡ []) ↔ Lawful t b q)
    (λ findings are. (
      λ e. absurd (some_found findings (λ f. (f.rule ≡ breach.rule) × (f.component ≡ breach.component)) (c.first_finding_is_first_breach.ensures t b q findings breach are c.in-Err.ensures.breach) e),
      λ l. let no = c.in-Err.ensures.lawful.1 l in absurd (cc),
    ))
    c.all_findings.ensures

pub returns-in-Err-clause-first : goal.returns-in-Err-clause-first
returns-in-Err-clause-first c =
    let t = c.args.ticket.now in
    let b = c.args.book.now in
    let q = c.args.request.now in
    IfOk-weaker c.all_findings.result (λ findings. AreFindings t b q findings)
    (λ findings. (breach : Breach) → FirstBreach b q t breach → OnFirst (λ f. (f.rule ≡ breach.rule) × (f.component ≡ breach.component)) findings)
    (λ findings are breach first. c.first_finding_is_first_breach.ensures t b q findings breach are first)
    c.all_findings.ensures
