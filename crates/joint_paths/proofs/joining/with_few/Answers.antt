use Rattle.std.proofs.Common.{[], ◌∷◌, length, length-append, take, ap, subst, arith}
use Rattle.std.proofs.lemmas.List.{take_all}
use Rattle.joint_paths.proofs.CostFacts.{down_none, not_less}
use Rattle.joint_paths.specs.Joins.{IsJoinedOf, PathsOf, SeekDown}
use Rattle.joint_paths.proofs.SeekSteps.{few_wider, seek_stop}
use Rattle.joint_paths.proofs.JoinSteps.{few_next}
use Rattle.law_lemmas.proofs.Tests.{not_so}
use Rattle.joint_paths.proofs.joining.with_few.Goals as goal

pub loop-number-init : goal.loop-number-init
loop-number-init c =
    let j = c.args.joint.now in
    let s = c.args.sought.now in
    down_none s.rule.now s.rungs.now (PathsOf j j.tails.now) (IsJoinedOf j.bucket.now [] (c.args.onward.now.tail.now ∷ [])) c.args.least (λ p x. x.head_in)

pub returns-then-not-is_less : goal.returns-then-not-is_less
returns-then-not-is_less c =
    let j = c.args.joint.now in
    let k = j.bucket.now in
    let s = c.args.sought.now in
    let o = c.args.onward.now in
    let few = c.args.few.now in
    seek_stop s.rule.now s.rungs.now (PathsOf j j.tails.now) (IsJoinedOf k (take c.loop-number.number few) (o.tail.now ∷ [])) (IsJoinedOf k few (o.tail.now ∷ [])) o.floor c.args.least c.loop-number.low c.loop-number.invariant
    (λ p x. c.requires.onward.floor p (few_wider k few k.heads.now (o.tail.now ∷ []) c.requires.few p x)) (not_less c.loop-number.low o.floor (not_so c.is_less.result c.if-not-is_less.true c.is_less.ensures.1))

pub with_unlisted-low-requires-clause-head : goal.with_unlisted-low-requires-clause-head
with_unlisted-low-requires-clause-head c =
    let more = c.requires.few in
    let sums = length-append c.args.few.now more.0 in
    omega (arith, ap length more.1, sums, c.loop-number-test.true)

pub loop-number-preserved : goal.loop-number-preserved
loop-number-preserved c = few_next c.args.joint.now c.args.sought.now c.args.few.now c.args.onward.now.tail.now c.loop-number.number c.loop-number-test.true c.requires.few c.args.least c.loop-number.low c.with_unlisted-low.result c.loop-number.invariant c.with_unlisted-low.ensures

pub returns : goal.returns
returns c = subst (λ hs. SeekDown c.args.joint.now c.args.sought.now hs (c.args.onward.now.tail.now ∷ []) c.args.least c.loop-number.low) (take_all c.loop-number.number c.args.few.now c.loop-number-test.false) c.loop-number.invariant
