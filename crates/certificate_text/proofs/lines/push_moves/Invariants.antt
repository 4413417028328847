use Rattle.std.proofs.Common.{◌≡◌, ◌++◌, take, flat_map}
use Rattle.certificate_text.specs.Lines.{move_words, spaced}
use Rattle.certificate_text.proofs.lines.push_moves.Given as goal

-- the moves so far have been added
abbrev pub invariant-loop-mv : goal.invariant-loop-mv
invariant-loop-mv l = l.text.items ≡ l.fn.text.items ++ spaced (flat_map move_words (take l.mv-index l.moves))
