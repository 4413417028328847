use Rattle.shop_book.proofs.CheckReplies.{no_check, refused_check, yes_check}
use Rattle.shop_book.proofs.checking.check_text.Goals as goal

-- the request or the certificate is refused
pub returns-in-Err-Refused : goal.returns-in-Err-Refused
returns-in-Err-Refused c =
    refused_check c.args.book.now c.args.request.now c.args.certificate.now c.refused.result c.in-Err-Refused.field-0 c.in-Err-Refused.refusal
    c.in-Err-Refused.ensures.read c.in-Err-Refused.field-0-is c.refused.ensures.status c.refused.ensures.text

-- the certificate meets the checks
pub returns-in-Yes : goal.returns-in-Yes
returns-in-Yes c =
    let read = c.in-Ok.ensures.read in
    yes_check c.args.book.now c.args.request.now c.args.certificate.now c.yes.result c.in-Ok.both.0 c.in-Ok.both.1 read.0 read.1
    (c.yes_is_best.ensures.best c.in-Ok.both.1 c.args.book.now c.in-Ok.both.0) c.in_ok-check.field-0 c.in_ok-check.ensures c.in-Yes.is c.yes.ensures.status c.yes.ensures.text

-- it fails one
pub returns : goal.returns
returns c =
    let read = c.in-Ok.ensures.read in
    no_check c.args.book.now c.args.request.now c.args.certificate.now c.no.result c.in-Ok.both.0 c.in-Ok.both.1 read.0 read.1
    c.in_ok-check.field-0 c.in-No.rule c.in-No.place c.in_ok-check.ensures c.in-No.is c.no.ensures.status c.no.ensures.text
