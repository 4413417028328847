use Rattle.std.proofs.Common.{◌≡◌, None}
use Rattle.shared_board.proofs.source.BoardSourceOfferSource.take.Given as goal

-- the pass is one of the board, and holds nothing
abbrev pub invariant-loop-j : goal.invariant-loop-j
invariant-loop-j g l = (l.self.pass.of ≡ l.board) × (l.self.pass.held ≡ None)

abbrev pub invariant-loop-j-2 : goal.invariant-loop-j-2
invariant-loop-j-2 g l = (l.self.pass.of ≡ l.board) × (l.self.pass.held ≡ None)
