use Rattle.std.proofs.Common.{◌≡◌, ◌+◌, [], ◌∷◌, ◌++◌, length, take, drop, ◌∙◌, ap, arith, length-append}
use Rattle.std.proofs.lemmas.List.{take_rest}
use Rattle.fare_law.specs.Moves.{move_of, moves_after}
use Rattle.ticket_order.specs.Tickets.{labels}
use Rattle.ticket_order.proofs.TicketMoves.{move_added}
use Rattle.ticket_order.proofs.roles.moves_of.Goals as goal

pub loop-i-preserved : goal.loop-i-preserved
loop-i-preserved c =
    let cs = c.as_slice-components.result.now in
    let i = c.loop-i.i in
    let x = c.index-components-i.result in
    let us = c.as_slice-units.result.now in
    let same : us ≡ labels cs = c.as_slice-units.ensures.items ∙ c.labels_of-units.ensures in
    let made : c.move_of.result ≡ move_of (take i (labels cs)) x (drop (i + 1) (labels cs)) =
    c.move_of.ensures ∙ ap (λ ls. move_of (take i us) x ls) (take_rest us (i + 1)) ∙ ap (λ ls. move_of (take i ls) x (drop (i + 1) ls)) same in (
      ap (λ ms. ms ++ moves_after (take (i + 1) (labels cs)) (drop (i + 1) cs)) c.push.ensures
          ∙ move_added cs i x c.move_of.result c.loop-i.moves _ c.loop-i-test.true c.index-components-i.is made c.loop-i.invariant.0,
      omega (arith, ap length c.push.ensures, length-append c.loop-i.moves (c.move_of.result ∷ [])),
    )
