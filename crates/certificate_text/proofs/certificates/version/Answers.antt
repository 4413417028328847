use Rattle.certificate_text.specs.Faults.{Head}
use Rattle.certificate_text.specs.Unread.{unread}
use Rattle.certificate_text.proofs.FaultLemmas.{fault_more, handed_on, passed_more, room_after}
use Rattle.certificate_text.proofs.certificates.version.Goals as goal

pub version-requires : goal.version-requires
version-requires c = room_after c.in_ok-at.ensures.ok c.requires

pub returns-in_err-number-clause-fault : goal.returns-in_err-number-clause-fault
returns-in_err-number-clause-fault c =
    handed_on Head (unread c.args.start) c.from_residual-in_err-number.result _ c.from_residual-in_err-number.ensures (fault_more c.in_ok-at.ensures.ok _ c.in_err-number.ensures.fault)

pub returns-clause-ok : goal.returns-clause-ok
returns-clause-ok c = passed_more c.in_ok-at.ensures.ok c.in_ok-number.ensures.ok
