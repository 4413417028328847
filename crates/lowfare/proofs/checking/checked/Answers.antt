use Rattle.std.proofs.Common.{sym, subst}
use Rattle.std.proofs.lemmas.Result.{IfOk-weaker}
use Rattle.lowfare.specs.Makes.{IsEnd}
use Rattle.lowfare.proofs.CheckMakes.{no_made, refused_made, yes_made}
use Rattle.lowfare.proofs.checking.checked.Goals as goal

-- the bytes spell no case
pub returns-in-Err-Refused-clause-makes : goal.returns-in-Err-Refused-clause-makes
returns-in-Err-Refused-clause-makes c =
    refused_made c.args.best c.args.at c.args.bytes c.refused.result c.in-Err-Refused.field-0 c.in-Err-Refused.refusal c.in-Err-Refused.ensures.case c.in-Err-Refused.field-0-is c.refused.ensures.status c.refused.ensures.text

-- the certificate meets the checks
pub returns-in-Yes-clause-makes : goal.returns-in-Yes-clause-makes
returns-in-Yes-clause-makes c =
    let found = c.in-Ok.found in
    yes_made c.args.best c.args.at c.args.bytes c.yes.result found c.in-Ok.ensures.case (c.yes_is_best.ensures.best found.certificate found.book found.request) c.in_ok-check.field-0 c.in_ok-check.ensures c.in-Yes.is c.yes.ensures.status c.yes.ensures.text

-- it fails one
pub returns-clause-makes : goal.returns-clause-makes
returns-clause-makes c =
    no_made c.args.best c.args.at c.args.bytes c.no.result c.in-Ok.found c.in-Ok.ensures.case c.in_ok-check.field-0 c.in-No.rule c.in-No.place c.in_ok-check.ensures c.in-No.is c.no.ensures.status c.no.ensures.text

pub tell_limits-requires : goal.tell_limits-requires
tell_limits-requires c = c.spelled_requests_are_right.ensures.check c.args.best c.args.at c.args.bytes c.in-Ok.found c.requires.best c.in-Ok.ensures.case

pub returns-clause-ends : goal.returns-clause-ends
returns-clause-ends c = IfOk-weaker c.no.result _ (λ o. IsEnd o.status) (λ o e. subst IsEnd (sym e) tt) c.no.ensures.status
