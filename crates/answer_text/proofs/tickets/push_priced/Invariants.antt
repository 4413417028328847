use Rattle.std.proofs.Common.{take}
use Rattle.fare_law.specs.declared.requests.Request.{Request}
use Rattle.answer_text.specs.Answer.{IsRight}
use Rattle.answer_text.proofs.TicketTexts.{Added, PartText}
use Rattle.answer_text.proofs.tickets.push_priced.Given as goal

abbrev pub invariant-loop-at : goal.invariant-loop-at
invariant-loop-at l = (request : Request) → IsRight l.book request l.priced → Added 1 (PartText l.book request l.priced.ticket.components) (take l.at l.priced.ticket.components) l.initial.text.items l.text.items
