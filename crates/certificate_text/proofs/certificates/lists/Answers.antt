use Rattle.certificate_text.specs.Faults.{AnswerCount}
use Rattle.certificate_text.specs.Unread.{unread}
use Rattle.certificate_text.proofs.FaultLemmas.{fault_more, handed_on, passed_more, room_after}
use Rattle.certificate_text.proofs.certificates.lists.Goals as goal

pub rows-requires : goal.rows-requires
rows-requires c = room_after c.in_ok-answers.ensures.ok c.requires

pub end-requires : goal.end-requires
end-requires c = room_after c.in_ok-rows.ensures.ok (room_after c.in_ok-answers.ensures.ok c.requires)

pub returns-in_err-rows-clause-fault : goal.returns-in_err-rows-clause-fault
returns-in_err-rows-clause-fault c =
    handed_on AnswerCount (unread c.args.start) c.from_residual-in_err-rows.result _ c.from_residual-in_err-rows.ensures (fault_more c.in_ok-answers.ensures.ok _ c.in_err-rows.ensures.fault)

pub returns-in_err-end-clause-fault : goal.returns-in_err-end-clause-fault
returns-in_err-end-clause-fault c =
    handed_on AnswerCount (unread c.args.start) c.from_residual-in_err-end.result _ c.from_residual-in_err-end.ensures (fault_more c.in_ok-answers.ensures.ok _ (fault_more c.in_ok-rows.ensures.ok _ c.in_err-end.ensures.fault))

pub returns-clause-ok : goal.returns-clause-ok
returns-clause-ok c = record {
  left = c.in_ok-end.ensures.ok.left;
  passed = passed_more c.in_ok-answers.ensures.ok (passed_more c.in_ok-rows.ensures.ok c.in_ok-end.ensures.ok.passed);
  over = c.in_ok-end.ensures.ok.over;
}
