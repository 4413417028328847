use Rattle.std.proofs.Common.{map, subst, sym}
use Rattle.answer_text.specs.Answer.{AnswerText}
use Rattle.answer_text.proofs.TicketTexts.{added_alone}
use Rattle.answer_text.proofs.tickets.answer_text.Goals as goal

pub returns : goal.returns
returns c q right =
    let is = AnswerText c.args.book.now q (map (λ p. p.ticket) c.args.tickets.now) in
    subst is (sym c.from_vec.ensures) (added_alone is c.new-text.result.items c.push_answer_text.new.text.items c.new-text.ensures.items (c.in_ok-push_answer_text.ensures q right))
