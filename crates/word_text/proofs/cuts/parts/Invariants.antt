use Rattle.std.proofs.Common.{take}
use Rattle.word_text.specs.Words.{IsFreeOf}
use Rattle.word_text.proofs.cuts.parts.Given as goal

-- no separator so far
abbrev pub invariant-loop-at : goal.invariant-loop-at
invariant-loop-at l = IsFreeOf l.separator (take l.at l.text)
