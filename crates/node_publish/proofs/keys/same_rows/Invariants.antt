use Rattle.std.proofs.Common.{◌≡◌, take}
use Rattle.node_publish.proofs.keys.same_rows.Given as goal

abbrev pub invariant-loop-at : goal.invariant-loop-at
invariant-loop-at l = take l.at l.ours ≡ take l.at l.theirs
