use Rattle.std.proofs.Common.{take}
use Rattle.word_text.specs.Words.{IsFreeOf}
use Rattle.certificate_text.proofs.words.to_space.Given as goal

-- no space so far
abbrev pub invariant-loop-at : goal.invariant-loop-at
invariant-loop-at l = IsFreeOf 32 (take l.at l.text)
