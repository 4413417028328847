use Rattle.answer_text.specs.Answer.{IsRight}
use Rattle.answer_text.proofs.TicketTexts.{PricedText, all_added, all_of, each_there, one_added}
use Rattle.answer_text.proofs.tickets.push_answer_text.Goals as goal

pub loop-at-preserved : goal.loop-at-preserved
loop-at-preserved c q right =
    let b = c.args.book.now in
    let tickets = c.args.tickets.now in
    let at = c.loop-at.at in
    let x = c.index-tickets-at.result in
    one_added (PricedText b q) tickets at x x c.push_tickets.new.text.items c.loop-at.text.items c.push_priced.new.text.items c.loop-at-test.true c.index-tickets-at.is (c.loop-at.invariant q right)
    (c.in_ok-push_priced.ensures q (each_there (IsRight b q) tickets at x x right c.loop-at-test.true c.index-tickets-at.is))

pub returns : goal.returns
returns c q right =
    let b = c.args.book.now in
    let tickets = c.args.tickets.now in
    all_added b q tickets c.args.text.now.items c.push_tickets.new.text.items c.loop-at.text.items c.in_ok-push_tickets.ensures
    (all_of (PricedText b q) tickets c.loop-at.at c.push_tickets.new.text.items c.loop-at.text.items c.loop-at-test.false (c.loop-at.invariant q right))
