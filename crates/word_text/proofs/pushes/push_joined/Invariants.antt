use Rattle.std.proofs.Common.{◌≡◌, ◌++◌, take}
use Rattle.word_text.proofs.JoinLemmas.{spaced}
use Rattle.word_text.proofs.pushes.push_joined.Given as goal

-- the words so far have been added
abbrev pub invariant-loop-word : goal.invariant-loop-word
invariant-loop-word l = l.text.items ≡ l.initial.text.items ++ spaced l.separator (take l.word-index l.rest)
