use Rattle.std.proofs.Common.{◌≡◌, take}
use Rattle.cheap_moves.proofs.ways.copied.Given as goal

abbrev pub invariant-loop-group : goal.invariant-loop-group
invariant-loop-group l = l.copy.items ≡ take l.group-index l.groups
