use Rattle.std.proofs.Common.{◌≤◌, ◌-◌, length, map}
use Rattle.certificate_text.specs.Faults.{Passed, answers_due}
use Rattle.certificate_text.specs.Lines.{IsAnswer, answer_line}
use Rattle.certificate_text.specs.Unread.{HasRoom, unread}
use Rattle.fare_law.specs.Lists.{Each}
use Rattle.certificate_text.proofs.lists.answers.Given as goal

-- the answers so far were passed, and the others are due
abbrev pub invariant-loop-at : goal.invariant-loop-at
invariant-loop-at l = record {
  few : length l.answers ≤ l.count;
  passed : Passed (answers_due l.count) (unread l.initial.at) (map answer_line l.answers) (answers_due (l.count - length l.answers)) (unread l.at);
  each : Each IsAnswer l.answers;
  room : HasRoom (unread l.at);
}

abbrev pub decreases-loop-at : goal.decreases-loop-at
decreases-loop-at l = l.count - length l.answers
