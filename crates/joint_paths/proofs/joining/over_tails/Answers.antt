use Rattle.std.proofs.Common.{◌+◌, [], ◌∷◌, None, get_or, take, subst}
use Rattle.std.proofs.lemmas.List.{take_all}
use Rattle.joint_paths.specs.declared.tail_classes.JoinTail.{JoinTail}
use Rattle.joint_paths.proofs.CostFacts.{down_none, down_on, least_down, not_less}
use Rattle.joint_paths.specs.Joins.{IsJoinedOf, PathsOf, SeekDown}
use Rattle.joint_paths.proofs.SeekSteps.{seek_stop, tail_more}
use Rattle.law_lemmas.proofs.Lists.{front_at, got_read}
use Rattle.law_lemmas.proofs.Tests.{not_so}
use Rattle.joint_paths.proofs.joining.over_tails.Goals as goal

abbrev no_tail : JoinTail
no_tail = record { number = 0; first = 0; count = 0; classes = 0; mark = 0 }

pub loop-at-init : goal.loop-at-init
loop-at-init c =
    let j = c.args.joint.now in
    let s = c.args.sought.now in
    record {
      room = c.requires.room;
      sought = c.requires.sought;
      charges = c.requires.charges;
      down = down_none s.rule.now s.rungs.now (PathsOf j j.tails.now) (IsJoinedOf j.bucket.now j.bucket.now.heads.now (take 0 j.tails.now)) None (λ p x. x.tail_in);
    }

pub loop-at-preserved : goal.loop-at-preserved
loop-at-preserved c =
    let j = c.args.joint.now in
    let k = j.bucket.now in
    let s = c.args.sought.now in
    let ts = j.tails.now in
    let n = c.loop-at.at in
    let t = get_or ts n no_tail in
    let ok = c.in_ok-least.ensures in
    let lt = c.loop-at-test.true in
    record {
      room = ok.room;
      sought = ok.sought;
      charges = ok.charges;
      down = down_on s.rule.now s.rungs.now (PathsOf j ts) (IsJoinedOf k k.heads.now (take n ts)) (IsJoinedOf k k.heads.now (t ∷ [])) (IsJoinedOf k k.heads.now (take (n + 1) ts)) None c.loop-at.least _ (λ p x. tail_more k k.heads.now ts n p t (front_at ts n no_tail lt) x) c.loop-at.invariant.down (ok.least t (got_read ts n no_tail lt));
    }

pub returns-then-not-is_less-clause-least : goal.returns-then-not-is_less-clause-least
returns-then-not-is_less-clause-least c =
    let j = c.args.joint.now in
    let k = j.bucket.now in
    let s = c.args.sought.now in
    let All = PathsOf j j.tails.now in
    least_down s.rule.now s.rungs.now All c.loop-at.least (seek_stop s.rule.now s.rungs.now All (IsJoinedOf k k.heads.now (take c.loop-at.at j.tails.now)) All s.floor None c.loop-at.least c.loop-at.invariant.down c.loop-at.invariant.sought.floor (not_less c.loop-at.least s.floor (not_so c.is_less.result c.if-not-is_less.true c.is_less.ensures.1)))

pub returns-then-not-is_less-clause-low : goal.returns-then-not-is_less-clause-low
returns-then-not-is_less-clause-low c = c.loop-at.invariant.down.low tt

pub returns-clause-least : goal.returns-clause-least
returns-clause-least c =
    let j = c.args.joint.now in
    let s = c.args.sought.now in
    let ts = j.tails.now in
    least_down s.rule.now s.rungs.now (PathsOf j ts) c.loop-at.least (subst (λ us. SeekDown j s j.bucket.now.heads.now us None c.loop-at.least) (take_all c.loop-at.at ts c.loop-at-test.false) c.loop-at.invariant.down)

pub returns-clause-low : goal.returns-clause-low
returns-clause-low c = c.loop-at.invariant.down.low tt
