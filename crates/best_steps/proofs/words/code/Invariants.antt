use Rattle.std.proofs.Common.{◌≡◌, take}
use Rattle.best_steps.proofs.words.code.Given as goal

abbrev pub invariant-loop-number : goal.invariant-loop-number
invariant-loop-number l = l.code ≡ take l.number-index l.word
