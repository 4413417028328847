use Rattle.std.proofs.Common.{◌≡◌, ◌≢◌, [], IfOk, rules, subst}
use Rattle.whole_case.specs.Cases.{verdict_case}
use Rattle.program_words.specs.declared.commands.Command.TheVariants.{Verdict}
use Rattle.lowfare.specs.Makes.{Makes}
use Rattle.lowfare.specs.Verdicts.{breaches_text}
use Rattle.lowfare.proofs.VerdictMakes.{lawful_made, unlawful_made}
use Rattle.lowfare.proofs.Refusing.{refused_ends}
use Rattle.lowfare.proofs.verdicts.ticket_judged.Goals as goal

-- the bytes spell no case
pub returns-in-Err-Refused-clause-makes : goal.returns-in-Err-Refused-clause-makes
returns-in-Err-Refused-clause-makes c =
    refused_ends (verdict_case c.args.at c.args.bytes) (Makes (Verdict c.args.at) c.args.bytes) (λ t h. h)
    c.refused.result c.in-Err-Refused.field-0 c.in-Err-Refused.refusal c.in-Err-Refused.ensures c.in-Err-Refused.field-0-is c.refused.ensures.status c.refused.ensures.text

-- there is no finding
pub returns-then-is_lawful-clause-makes : goal.returns-then-is_lawful-clause-makes
returns-then-is_lawful-clause-makes c =
    lawful_made c.args.at c.args.bytes c.lawful.result c.in-Ok.found c.in-Ok.ensures c.lawful.ensures.status c.lawful.ensures.text

-- there are findings
pub returns-clause-makes : goal.returns-clause-makes
returns-clause-makes c =
    let findings = c.in_ok-findings.findings in
    let some : findings ≢ [] = search rules in
    unlawful_made c.args.at c.args.bytes c.unlawful.result c.in-Ok.found c.in-Ok.ensures findings c.in_ok-findings.ensures.findings c.in_ok-findings.ensures.lawful some c.unlawful.ensures.status
    (subst (λ fs. IfOk c.unlawful.result (λ o. o.text ≡ breaches_text fs)) c.as_slice.ensures c.unlawful.ensures.text)
