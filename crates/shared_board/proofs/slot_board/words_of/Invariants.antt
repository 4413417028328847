use Rattle.std.proofs.Common.{◌≡◌, ◌+◌, length, slice_index}
use Rattle.shared_board.proofs.slot_board.words_of.Given as goal

abbrev pub invariant-loop-i : goal.invariant-loop-i
invariant-loop-i l = (length l.words.items ≡ l.i + 1) × (slice_index l.words.items 0 ≡ l.number)
