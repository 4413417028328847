use Rattle.std.proofs.Common.{◌≡◌, map, take}
use Rattle.search_steps.specs.LeastMoves.{least_of}
use Rattle.search_steps.proofs.least.least_of_each.Given as goal

abbrev pub invariant-loop-counted : goal.invariant-loop-counted
invariant-loop-counted l = l.least ≡ map least_of (take l.counted-index l.found)
