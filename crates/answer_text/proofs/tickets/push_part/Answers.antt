use Rattle.std.proofs.Common.{◌∙◌}
use Rattle.ticket_whole.specs.Known.{parts_of}
use Rattle.ticket_whole.proofs.PartLookups.{numbers_known}
use Rattle.answer_text.proofs.TicketTexts.{component_added}
use Rattle.law_lemmas.proofs.Options.{on_ok}
use Rattle.answer_text.proofs.tickets.push_part.Goals as goal

pub returns : goal.returns
returns c =
    let b = c.args.book.now in
    let component = c.args.component.now in
    on_ok c.push_flights.result _ _
    (λ added q part kind is found unit.
    component_added (parts_of b q.sale c.args.components.now) c.args.number part c.in-Some.line component.fare c.as_slice.result.now c.args.text.now.items c.push_component.new.text.items c.push_flights.new.text.items
    (c.in-Some.ensures q part kind is found unit) (c.limits.ensures.fares component.fare part.piece.fare is.stands.fare).0
    (c.as_slice.ensures.items ∙ c.flights_of.ensures.flights ∙ numbers_known b component.flights part.flights is.flights) c.in_ok-push_component.ensures added)
    c.push_flights.ensures
