use Rattle.std.proofs.Common.{None, take}
use Rattle.joint_paths.specs.Joins.{IsAsked, IsRoom, IsSought, SeekDown}
use Rattle.joint_paths.proofs.joining.over_tails.Given as goal

abbrev pub invariant-loop-at : goal.invariant-loop-at
invariant-loop-at l = record {
  room : IsRoom l.joint l.room;
  sought : IsSought l.joint l.room l.sought;
  charges : IsAsked l.sought l.room;
  down : SeekDown l.joint l.sought l.joint.bucket.now.heads.now (take l.at l.joint.tails.now) None l.least;
}
