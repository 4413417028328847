use Rattle.ticket_whole.proofs.FirstBreaks.{broken_whole}
use Rattle.ticket_whole.proofs.meeting.broken_at.Goals as goal

pub returns-then-not-ticket_meets : goal.returns-then-not-ticket_meets
returns-then-not-ticket_meets c = broken_whole c.args.book.now c.args.request.now c.args.ticket.now c.args.demand (λ h. let t = c.ticket_meets.ensures.1 h in absurd (cc))
