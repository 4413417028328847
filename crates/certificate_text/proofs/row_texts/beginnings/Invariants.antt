use Rattle.std.proofs.Common.{◌≡◌, take, map}
use Rattle.certificate_text.specs.RowTexts.{beginning}
use Rattle.certificate_text.proofs.row_texts.beginnings.Given as goal

-- the texts of the positions so far
abbrev pub invariant-loop-at : goal.invariant-loop-at
invariant-loop-at l = l.texts ≡ map beginning (take l.at-index l.positions)
