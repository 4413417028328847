use Rattle.std.proofs.Common.{◌≡◌, map, take}
use Rattle.joint_paths.proofs.InOrder.{tail_of}
use Rattle.joint_paths.proofs.tail_classes.tails_of.Given as goal

abbrev pub invariant-loop-one : goal.invariant-loop-one
invariant-loop-one l = l.tails.items ≡ map tail_of (take l.one-index l.ordered)
