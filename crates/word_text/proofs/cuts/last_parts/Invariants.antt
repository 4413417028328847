use Rattle.std.proofs.Common.{drop}
use Rattle.word_text.specs.Words.{IsFreeOf}
use Rattle.word_text.proofs.cuts.last_parts.Given as goal

-- no separator further on
abbrev pub invariant-loop-at : goal.invariant-loop-at
invariant-loop-at l = IsFreeOf l.separator (drop l.at l.text)
