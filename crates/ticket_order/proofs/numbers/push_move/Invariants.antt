use Rattle.std.proofs.Common.{◌≡◌, ◌+◌, ◌++◌, length, take}
use Rattle.ticket_order.proofs.numbers.push_move.Given as goal

abbrev pub invariant-loop-number : goal.invariant-loop-number
invariant-loop-number l = (l.code ≡ l.initial.code ++ take l.number-index l.number-items) × (length l.code ≡ length l.initial.code + l.number-index)
