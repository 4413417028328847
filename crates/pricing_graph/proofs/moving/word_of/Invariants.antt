use Rattle.std.proofs.Common.{◌≡◌, take}
use Rattle.pricing_graph.proofs.moving.word_of.Given as goal

abbrev pub invariant-loop-number : goal.invariant-loop-number
invariant-loop-number l = l.word ≡ take l.number-index l.number-items
