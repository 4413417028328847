use Rattle.std.proofs.Common.{◌≡◌, ◌*◌, ◌≤◌, ◌++◌, length, drop}
use Rattle.fare_law.specs.Codes.{run_code}
use Rattle.fare_law.specs.declared.limits.TheConstants.{CODE_NUMBERS_OF_A_MOVE}
use Rattle.ticket_order.proofs.numbers.code.Given as goal

abbrev pub invariant-loop-m : goal.invariant-loop-m
invariant-loop-m l = (l.code ++ run_code (drop l.m-index l.moves) ≡ run_code l.moves) × (length l.code ≤ CODE_NUMBERS_OF_A_MOVE * l.m-index)
