use Rattle.ticket_whole.proofs.FirstBreaks.{FirstMeet}
use Rattle.ticket_whole.proofs.meeting.broken_at.Given as goal

abbrev pub invariant-loop-at : goal.invariant-loop-at
invariant-loop-at l = FirstMeet l.book l.request l.ticket l.demand l.at
