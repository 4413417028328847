use Rattle.std.proofs.Common.{[], ◌∷◌, take}
use Rattle.joint_paths.specs.Joins.{SeekDown}
use Rattle.joint_paths.proofs.joining.with_few.Given as goal

abbrev pub invariant-loop-number : goal.invariant-loop-number
invariant-loop-number l = SeekDown l.joint l.sought (take l.number l.few) (l.onward.tail.now ∷ []) l.fn.least l.low
