use Rattle.std.proofs.Common.{◌≡◌, ◌++◌, map, take}
use Rattle.cheap_moves.specs.LeastMoves.{counted}
use Rattle.cheap_moves.proofs.bucket.add_counted.Given as goal

abbrev pub invariant-loop-chosen : goal.invariant-loop-chosen
invariant-loop-chosen g l = l.kept.items ≡ l.initial.kept.items ++ map (counted (g.B.ResidualBounds.bound l.bounds)) (take l.chosen-index l.found)
