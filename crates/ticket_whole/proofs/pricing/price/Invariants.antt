use Rattle.ticket_whole.proofs.PriceSums.{SoFar}
use Rattle.ticket_whole.proofs.pricing.price.Given as goal

abbrev pub invariant-loop-component : goal.invariant-loop-component
invariant-loop-component l = SoFar l.book l.ticket.components l.component-index l.sum
