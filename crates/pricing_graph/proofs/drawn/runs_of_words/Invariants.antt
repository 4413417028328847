use Rattle.std.proofs.Common.{take}
use Rattle.fare_law.specs.Lists.{Matched}
use Rattle.pricing_graph.specs.DrawnRuns.{IsReadAs}
use Rattle.pricing_graph.proofs.drawn.runs_of_words.Given as goal

abbrev pub invariant-loop-derivation : goal.invariant-loop-derivation
invariant-loop-derivation l = Matched IsReadAs (take l.derivation-index l.found) l.runs
