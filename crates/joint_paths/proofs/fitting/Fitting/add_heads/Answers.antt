use Rattle.std.proofs.Common.{arith}
use Rattle.joint_paths.proofs.HeadFacts.{within_reach}
use Rattle.joint_paths.proofs.FitFacts.{lists_all, lists_behind, lists_more, lists_none}
use Rattle.joint_paths.proofs.fitting.Fitting.add_heads.Goals as goal

pub loop-head-init : goal.loop-head-init
loop-head-init c = lists_none c.args.bucket.now c.args.tail.now c.args.self.now

pub add_head-requires-clause-place : goal.add_head-requires-clause-place
add_head-requires-clause-place c = omega (arith, c.loop-head-test.true, c.reach-end.ensures.end)

pub loop-head-preserved : goal.loop-head-preserved
loop-head-preserved c = lists_more c.args.bucket.now c.args.tail.now c.loop-head.head c.args.self.now c.loop-head.self c.add_head.new.self c.loop-head.invariant c.in_ok-add_head.ensures.added c.add_head.ensures.tails c.add_head.ensures.whole c.add_head.ensures.charges

pub returns-in_err-add_head-clause-heads : goal.returns-in_err-add_head-clause-heads
returns-in_err-add_head-clause-heads c = lists_behind c.args.bucket.now c.args.tail.now c.loop-head.head c.args.self.now c.loop-head.self c.add_head.new.self c.loop-head.invariant c.add_head.ensures.heads

pub returns-clause-heads : goal.returns-clause-heads
returns-clause-heads c = (c.loop-head.invariant.more, c.loop-head.invariant.joined)

pub returns-clause-listed : goal.returns-clause-listed
returns-clause-listed c =
    let k = c.args.bucket.now in
    let t = c.args.tail.now in
    lists_all k t c.loop-head.head c.args.self.now c.loop-head.self c.loop-head.invariant
    (λ n h got f. let r = (within_reach k t c.requires.tail c.room_before.result c.room_before.ensures c.reach-end.result c.reach-end.ensures.reach n h got f).0 in omega (arith, r, c.loop-head-test.false))
    _ (omega (arith, c.len-from.ensures)) (omega (arith, c.len-to.ensures))
