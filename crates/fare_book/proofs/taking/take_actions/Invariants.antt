use Rattle.std.proofs.Common.{take}
use Rattle.fare_book.proofs.TakingLemmas.{TakenSo}
use Rattle.fare_book.proofs.taking.take_actions.Given as goal

abbrev pub invariant-loop-i : goal.invariant-loop-i
invariant-loop-i l = TakenSo l.initial.draft (take l.i l.actions) l.draft
