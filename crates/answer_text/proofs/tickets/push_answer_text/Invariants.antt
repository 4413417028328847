use Rattle.std.proofs.Common.{take}
use Rattle.fare_law.specs.declared.requests.Request.{Request}
use Rattle.fare_law.specs.Lists.{Each}
use Rattle.answer_text.specs.Answer.{IsRight}
use Rattle.answer_text.proofs.TicketTexts.{Added, PricedText}
use Rattle.answer_text.proofs.tickets.push_answer_text.Given as goal

abbrev pub invariant-loop-at : goal.invariant-loop-at
invariant-loop-at l = (request : Request) → Each (IsRight l.book request) l.tickets → Added 1 (PricedText l.book request) (take l.at l.tickets) l.initial.text.items l.text.items
