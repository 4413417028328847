use Rattle.std.proofs.Common.{◌≡◌, ◌≢◌, [], IfOk, rules, subst}
use Rattle.lowfare.specs.Verdicts.{breaches_text}
use Rattle.shop_book.proofs.VerdictReplies.{lawful_verdict, refused_verdict, unlawful_verdict}
use Rattle.shop_book.proofs.verdicts.verdict_text.Goals as goal

-- the request or the ticket is refused
pub returns-in-Err-Refused : goal.returns-in-Err-Refused
returns-in-Err-Refused c =
    refused_verdict c.args.book.now c.args.request.now c.args.ticket.now c.refused.result c.in-Err-Refused.field-0 c.in-Err-Refused.refusal
    c.in-Err-Refused.ensures.read c.in-Err-Refused.field-0-is c.refused.ensures.status c.refused.ensures.text

-- there is no finding
pub returns-then-is_lawful : goal.returns-then-is_lawful
returns-then-is_lawful c =
    let read = c.in-Ok.ensures.read in
    lawful_verdict c.args.book.now c.args.request.now c.args.ticket.now c.lawful.result c.in-Ok.both.0 c.in-Ok.both.1 read.0 read.1 c.lawful.ensures.status c.lawful.ensures.text

-- there are findings
pub returns : goal.returns
returns c =
    let read = c.in-Ok.ensures.read in
    let findings = c.in_ok-findings.findings in
    let some : findings ≢ [] = search rules in
    unlawful_verdict c.args.book.now c.args.request.now c.args.ticket.now c.unlawful.result c.in-Ok.both.0 c.in-Ok.both.1 read.0 read.1 findings c.in_ok-findings.ensures.findings c.in_ok-findings.ensures.lawful some
    c.unlawful.ensures.status (subst (λ fs. IfOk c.unlawful.result (λ o. o.text ≡ breaches_text fs)) c.as_slice.ensures c.unlawful.ensures.text)
