use Rattle.name_text.proofs.PairLemmas.{From}
use Rattle.name_text.proofs.seats.seats_in.Given as goal

abbrev pub invariant-loop-i : goal.invariant-loop-i
invariant-loop-i l = From l.text l.i l.named l.seats
