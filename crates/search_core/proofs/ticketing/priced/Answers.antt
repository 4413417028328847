use Rattle.std.proofs.Common.{◌≡◌, IfNone, IfSome, refl, subst}
use Rattle.fare_law.specs.declared.tickets.Ticket.{Ticket}
use Rattle.fare_law.specs.Flights.{Ascending}
use Rattle.search_core.proofs.RunTickets.{made_is, made_some, run_made}
use Rattle.ticket_order.specs.Tickets.{TicketOfMoves}
use Rattle.search_core.proofs.ticketing.priced.Goals as goal

pub unreachable-requires : goal.unreachable-requires
unreachable-requires c =
    let b = c.args.book.now in
    let q = c.args.request.now in
    let s = c.schedule_of-schedule.result.now in
    let f = c.schedule_of-schedule.ensures.flights in
    let t = run_made b q c.args.run.now (c.nothing_lost.ensures.runs b q (subst Ascending f c.flights.ensures.ascending)) (λ t law. c.nothing_lost.ensures.few b q t c.requires.request.count.1 law) (λ t. c.lawful_tickets.ensures b q t) c.requires.drawn in
    made_some b q c.args.run.now s.flights c.as_slice.result.now f c.as_slice.ensures.items t
    (subst (λ r. IfNone r ((u : Ticket) → TicketOfMoves s.flights c.as_slice.result.now u → ⊥)) c.in-None.is c.ticket_of.ensures.none)

pub returns : goal.returns
returns c =
    let b = c.args.book.now in
    let q = c.args.request.now in
    let s = c.schedule_of-schedule.result.now in
    let f = c.schedule_of-schedule.ensures.flights in
    let t = run_made b q c.args.run.now (c.nothing_lost.ensures.runs b q (subst Ascending f c.flights.ensures.ascending)) (λ t law. c.nothing_lost.ensures.few b q t c.requires.request.count.1 law) (λ t. c.lawful_tickets.ensures b q t) c.requires.drawn in
    record {
      ticket =
          made_is b q c.args.run.now s.flights c.as_slice.result.now f c.as_slice.ensures.items t c.in-Some.ticket
          (subst (λ r. IfSome r (λ made. (u : Ticket) → TicketOfMoves s.flights c.as_slice.result.now u → u ≡ made)) c.in-Some.is c.ticket_of.ensures.only);
      price = refl;
    }
