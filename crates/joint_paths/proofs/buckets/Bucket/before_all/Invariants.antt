use Rattle.std.proofs.Common.{take}
use Rattle.fare_law.specs.Lists.{IsIn}
use Rattle.joint_paths.specs.declared.crossing_heads.CrossingHead.{CrossingHead}
use Rattle.joint_paths.specs.declared.tail_classes.JoinTail.{JoinTail}
use Rattle.joint_paths.specs.Heads.{FollowsOn}
use Rattle.joint_paths.proofs.buckets.Bucket.before_all.Given as goal

abbrev pub invariant-loop-at : goal.invariant-loop-at
invariant-loop-at l = (t : JoinTail) → IsIn t (take l.at l.tails) → (h : CrossingHead) → IsIn h l.self.heads.now → FollowsOn l.self h t → ⊥
