use Rattle.ticket_order.proofs.NamesRead.{Digits}
use Rattle.ticket_order.proofs.decoding.basis_of.Given as goal

abbrev pub invariant-loop-place : goal.invariant-loop-place
invariant-loop-place l = Digits l.number l.place l.characters l.rest
