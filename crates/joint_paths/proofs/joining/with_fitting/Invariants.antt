use Rattle.std.proofs.Common.{take}
use Rattle.joint_paths.proofs.SeekSteps.{SeekListed}
use Rattle.joint_paths.proofs.joining.with_fitting.Given as goal

abbrev pub invariant-loop-one : goal.invariant-loop-one
invariant-loop-one l = SeekListed l.joint l.sought (take l.one-index l.heads) l.onward.tail.now l.fn.least l.low
