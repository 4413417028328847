use Rattle.serving.proofs.RepliesTold.{tickets_told, too_large_told}
use Rattle.serving.proofs.bodies.body_text.Goals as goal

pub returns-in_ok-text-in-Tickets : goal.returns-in_ok-text-in-Tickets
returns-in_ok-text-in-Tickets c =
    tickets_told c.args.book.now c.args.body.now c.in-Tickets.tickets c.as_slice.result.now c.in_ok-text-in-Tickets.text c.in-Tickets.is c.as_slice.ensures c.in_ok-text-in-Tickets.ensures

pub returns-in_ok-text-in-TooLarge : goal.returns-in_ok-text-in-TooLarge
returns-in_ok-text-in-TooLarge c = too_large_told c.args.book.now c.args.body.now c.in_ok-text-in-TooLarge.text c.in-TooLarge.is c.in_ok-text-in-TooLarge.ensures
