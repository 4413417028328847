use Rattle.std.proofs.Common.{sym}
use Rattle.certificate.specs.AnswerCheck.{AnswerBelow}
use Rattle.certificate.specs.declared.parts.CertAnswer.{CertAnswer}
use Rattle.certificate_check.proofs.Begins.{if_last}
use Rattle.certificate_check.proofs.answering.ascends.Goals as goal

pub returns-in-Some : goal.returns-in-Some
returns-in-Some c =
    let last = if_last (λ (a : CertAnswer). AnswerBelow a c.args.answer.now) c.args.before.now c.in-Some.last.now (sym c.in-Some.ensures.value) in
    (λ t. last.1 (c.is_below.ensures.0 t), λ h. c.is_below.ensures.1 (last.0 h))
