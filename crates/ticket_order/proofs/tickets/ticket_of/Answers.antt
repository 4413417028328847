use Rattle.std.proofs.Common.{◌≡◌, IfNone, length, sym, ap, subst, ◌∙◌, arith}
use Rattle.fare_law.specs.declared.tickets.Ticket.{Ticket}
use Rattle.fare_law.specs.Lists.{Matched}
use Rattle.fare_law.specs.declared.limits.TheConstants.{MOST_COMPONENTS}
use Rattle.ticket_order.specs.Tickets.{TicketOfMoves, labels, IsComponent}
use Rattle.ticket_order.proofs.ReadLabels.{labels_long}
use Rattle.ticket_order.proofs.TicketParts.{ticket_made, ticket_labels, ticket_parts, ticket_short}
use Rattle.ticket_order.proofs.tickets.ticket_of.Goals as goal

pub returns-then-moves-gt-MOST_COMPONENTS-clause-none : goal.returns-then-moves-gt-MOST_COMPONENTS-clause-none
returns-then-moves-gt-MOST_COMPONENTS-clause-none c = λ t h. let s = ticket_short c.args.schedule.now.flights c.args.moves.now t h in omega arith

pub returns-in_err-labels-clause-none : goal.returns-in_err-labels-clause-none
returns-in_err-labels-clause-none c =
    let fs = c.args.schedule.now.flights in
    let ms = c.args.moves.now in
    subst (λ r. IfNone r ((t : Ticket) → TicketOfMoves fs ms t → ⊥)) (sym c.from_residual.ensures)
    (λ t h. let e = c.in_err-labels.ensures.only (labels t.components) h.numbered (ticket_labels fs ms t h) in absurd (cc))

pub components_of-requires-clause-each : goal.components_of-requires-clause-each
components_of-requires-clause-each c = ap length c.as_slice.ensures.items ∙ labels_long _ c.in_ok-labels.labels c.args.moves.now c.in_ok-labels.ensures.right.1

pub returns-in_err-components-clause-none : goal.returns-in_err-components-clause-none
returns-in_err-components-clause-none c =
    let fs = c.args.schedule.now.flights in
    let ms = c.args.moves.now in
    subst (λ r. IfNone r ((t : Ticket) → TicketOfMoves fs ms t → ⊥)) (sym c.from_residual-in_err-components.ensures)
    (λ t h.
    let e = c.in_ok-labels.ensures.only (labels t.components) h.numbered (ticket_labels fs ms t h) in
    let u : labels t.components ≡ c.as_slice.result.now = cc in
    let parts = subst (λ x. Matched (IsComponent x) ms t.components) (sym c.flights.ensures.flights) (ticket_parts fs ms t h) in
    let k = c.in_err-components.ensures.only t.components parts u in
    absurd (cc))

pub returns-clause-ticket : goal.returns-clause-ticket
returns-clause-ticket c =
    let fs = c.args.schedule.now.flights in
    let ms = c.args.moves.now in
    let some = c.in_ok-components.ensures.some in
    ticket_made fs ms c.in_ok-labels.labels _ (omega arith) c.in_ok-labels.ensures.right.0 c.in_ok-labels.ensures.right.1
    (subst (λ x. Matched (IsComponent x) ms c.in_ok-components.components) c.flights.ensures.flights some.0) (some.1 ∙ c.as_slice.ensures.items)

pub returns-clause-only : goal.returns-clause-only
returns-clause-only c = λ t h.
    let fs = c.args.schedule.now.flights in
    let ms = c.args.moves.now in
    let e = c.in_ok-labels.ensures.only (labels t.components) h.numbered (ticket_labels fs ms t h) in
    let u : labels t.components ≡ c.as_slice.result.now = cc in
    let parts = subst (λ x. Matched (IsComponent x) ms t.components) (sym c.flights.ensures.flights) (ticket_parts fs ms t h) in
    let k = c.in_ok-components.ensures.only t.components parts u in
    let same : t.components ≡ c.in_ok-components.components = cc in
    λ i. record { components = same i }
