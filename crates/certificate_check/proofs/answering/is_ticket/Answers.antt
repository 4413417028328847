use Rattle.std.proofs.Common.{◌≡◌, subst, sym, arith, rules}
use Rattle.std.specs.Result.{IsOk}
use Rattle.certificate_check.proofs.AnswerTickets.{lawful_told, price_told, unlawful_told}
use Rattle.fare_law.specs.declared.tickets.Ticket.{Ticket}
use Rattle.fare_law.specs.Lawful.{Lawful}
use Rattle.fare_law.specs.Moves.{moves_of}
use Rattle.ticket_order.specs.Tickets.{TicketOfMoves}
use Rattle.certificate_check.proofs.answering.is_ticket.Goals as goal

pub returns-then-is_ok : goal.returns-then-is_ok
returns-then-is_ok c =
    let b = c.args.book.now in
    let q = c.args.request.now in
    let flights : c.schedule-schedule.result.now.flights ≡ b.timetable.flights = cc in
    let six = c.requires.count in
    let made = λ (t : Ticket) (law : Lawful t b q). subst (λ fs. TicketOfMoves fs (moves_of t) t) (sym flights) (c.lawful_tickets.ensures b q t law (c.nothing_lost.ensures.few b q t (omega (arith, six)) law)) in
    let ok : IsOk c.lawful.result = search rules in
    lawful_told b q c.args.answer.now c.schedule-schedule.result.now.flights (c.nothing_lost.ensures.tickets b q) made c.as_slice.result.now c.as_slice.ensures.items c.in-Some.ticket c.in-Some.ensures.ticket c.in-Some.ensures.only c.price.result c.price.ensures.costs
    (c.lawful.ensures.lawful.0 ok) c.eq.result (price_told c.price.result c.args.answer.now.price c.eq.result c.eq.ensures)

pub returns-else-is_ok : goal.returns-else-is_ok
returns-else-is_ok c =
    let b = c.args.book.now in
    let q = c.args.request.now in
    let flights : c.schedule-schedule.result.now.flights ≡ b.timetable.flights = cc in
    let six = c.requires.count in
    let made = λ (t : Ticket) (law : Lawful t b q). subst (λ fs. TicketOfMoves fs (moves_of t) t) (sym flights) (c.lawful_tickets.ensures b q t law (c.nothing_lost.ensures.few b q t (omega (arith, six)) law)) in
    let bad : IsOk c.lawful.result → ⊥ = search rules in (
      λ t. absurd (let f = c.if-is_ok.false in cc),
      λ h. absurd (unlawful_told b q c.args.answer.now c.schedule-schedule.result.now.flights made c.as_slice.result.now c.as_slice.ensures.items c.in-Some.ticket c.in-Some.ensures.only (λ law. bad (c.lawful.ensures.lawful.1 law)) h),
    )
