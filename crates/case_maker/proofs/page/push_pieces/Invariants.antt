use Rattle.std.proofs.Common.{◌≡◌, ◌++◌, take, flat_map}
use Rattle.case_maker.proofs.page.push_pieces.Given as goal

-- the pieces so far have been added
abbrev pub invariant-loop-piece : goal.invariant-loop-piece
invariant-loop-piece l = l.text.items ≡ l.initial.text.items ++ flat_map (λ p. p.now) (take l.piece-index l.pieces)
