use Rattle.certificate.specs.declared.parts.Certificate.{Certificate}
use Rattle.certificate_text.specs.Faults.{Head}
use Rattle.certificate_text.specs.Unread.{unread}
use Rattle.certificate_text.proofs.CertLines.{is_of}
use Rattle.certificate_text.proofs.FaultLemmas.{fault_more, handed_on, passed_more, room_after}
use Rattle.certificate_text.proofs.certificates.read_from.Goals as goal

pub request-requires : goal.request-requires
request-requires c = room_after c.in_ok-number.ensures.ok c.requires

pub lists-requires : goal.lists-requires
lists-requires c = room_after c.in_ok-request.ensures.ok.passed (room_after c.in_ok-number.ensures.ok c.requires)

pub returns-in_err-request-clause-fault : goal.returns-in_err-request-clause-fault
returns-in_err-request-clause-fault c =
    handed_on Head (unread c.args.start) c.from_residual-in_err-request.result _ c.from_residual-in_err-request.ensures (fault_more c.in_ok-number.ensures.ok _ c.in_err-request.ensures.fault)

pub returns-in_err-answers-clause-fault : goal.returns-in_err-answers-clause-fault
returns-in_err-answers-clause-fault c =
    handed_on Head (unread c.args.start) c.from_residual-in_err-answers.result _ c.from_residual-in_err-answers.ensures (fault_more c.in_ok-number.ensures.ok _ (fault_more c.in_ok-request.ensures.ok.passed _ c.in_err-answers.ensures.fault))

pub returns-clause-of : goal.returns-clause-of
returns-clause-of c =
    let lists = c.in_ok-answers.ensures.ok in
    let whole = passed_more c.in_ok-number.ensures.ok (passed_more c.in_ok-request.ensures.ok.passed lists.passed) in
    let it : Certificate = record { number = c.in_ok-number.number; request = c.in_ok-request.request; answers = c.in_ok-answers.answers; rows = c.in_ok-answers.rows } in
    is_of (unread c.args.start) it c.in_ok-request.ensures.ok.written lists.left c.in_ok-request.ensures.ok.request whole.taken lists.over
