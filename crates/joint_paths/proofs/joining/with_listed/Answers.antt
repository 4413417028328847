use Rattle.std.proofs.Common.{◌+◌, [], ◌∷◌, ap, subst, sym, ◌∙◌, arith}
use Rattle.fare_ends.proofs.RungFacts.{share_low}
use Rattle.fare_groups.specs.Grouping.{first_share}
use Rattle.joint_paths.proofs.CostFacts.{not_less}
use Rattle.joint_paths.specs.Heads.{FollowsOn}
use Rattle.joint_paths.specs.Joins.{SeekDown}
use Rattle.joint_paths.proofs.JoinSteps.{added_low, fit_classes, pair_dear, pair_nothing}
use Rattle.law_lemmas.proofs.Lists.{got_is, got_read}
use Rattle.law_lemmas.proofs.Members.{got_in}
use Rattle.law_lemmas.proofs.Tests.{not_so}
use Rattle.joint_paths.proofs.joining.with_listed.Goals as goal

pub returns-in_default : goal.returns-in_default
returns-in_default c = λ h got.
    let t = c.args.onward.now.tail.now in
    pair_nothing c.args.joint.now c.args.sought.now h t c.args.least (ap (first_share c.args.sought.now.rungs.now) (sym (fit_classes c.args.joint.now.bucket.now t c.args.one.now c.requires.head h got)) ∙ sym c.in_default.ensures)

pub returns-then-not-is_less : goal.returns-then-not-is_less
returns-then-not-is_less c = λ h got.
    let o = c.args.onward.now in
    let share = c.in-Some.share in
    pair_dear c.args.joint.now c.args.sought.now h o.tail.now c.args.least share o.added (ap (first_share c.args.sought.now.rungs.now) (sym (fit_classes c.args.joint.now.bucket.now o.tail.now c.args.one.now c.requires.head h got)) ∙ sym c.in-Some.ensures) c.requires.onward.adds
    (not_less c.args.least (share + o.added) (not_so c.is_less.result c.if-not-is_less.true c.is_less.ensures.1))

pub overflow_add-share : goal.overflow_add-share
overflow_add-share c =
    let o = c.args.onward.now in
    let s = c.requires.sought in
    let share = share_low s.fares c.args.sought.now.rungs.now _ c.in-Some.share s.rungs (sym c.in-Some.ensures) in
    let added = added_low c.args.joint.now c.args.sought.now c.requires.joint o.at o.tail.now c.requires.onward.stands o.added c.requires.onward.adds in
    omega (arith, share, added)

pub may_lower-requires-clause-head : goal.may_lower-requires-clause-head
may_lower-requires-clause-head c =
    let s = c.requires.sought in
    let hs = c.args.joint.now.bucket.now.heads.now in
    let n = c.args.one.now.head in
    let stands = got_read hs n _ c.requires.place in
    record {
      stands = stands;
      share_is = ap (first_share c.args.sought.now.rungs.now) (sym (fit_classes c.args.joint.now.bucket.now c.args.onward.now.tail.now c.args.one.now c.requires.head _ stands)) ∙ sym c.in-Some.ensures;
      low = share_low s.fares c.args.sought.now.rungs.now _ c.in-Some.share s.rungs (sym c.in-Some.ensures);
    }

pub returns-then-not-may_lower : goal.returns-then-not-may_lower
returns-then-not-may_lower c = λ h got. subst (λ x. SeekDown c.args.joint.now c.args.sought.now (x ∷ []) (c.args.onward.now.tail.now ∷ []) c.args.least c.args.least) (got_is c.args.joint.now.bucket.now.heads.now c.args.one.now.head _ h got) (c.may_lower.ensures c.if-not-may_lower.true)

pub with_pair-requires-clause-tail : goal.with_pair-requires-clause-tail
with_pair-requires-clause-tail c = got_in c.args.joint.now.tails.now c.args.onward.now.at c.args.onward.now.tail.now c.requires.onward.stands

pub with_pair-requires-clause-head : goal.with_pair-requires-clause-head
with_pair-requires-clause-head c =
    let s = c.requires.sought in
    let hs = c.args.joint.now.bucket.now.heads.now in
    let n = c.args.one.now.head in
    let stands = got_read hs n _ c.requires.place in
    record {
      stands = stands;
      share_is = ap (first_share c.args.sought.now.rungs.now) (sym (fit_classes c.args.joint.now.bucket.now c.args.onward.now.tail.now c.args.one.now c.requires.head _ stands)) ∙ sym c.in-Some.ensures;
      low = share_low s.fares c.args.sought.now.rungs.now _ c.in-Some.share s.rungs (sym c.in-Some.ensures);
    }

pub with_pair-requires-clause-follows : goal.with_pair-requires-clause-follows
with_pair-requires-clause-follows c = subst (λ x. FollowsOn c.args.joint.now.bucket.now x c.args.onward.now.tail.now) (sym (got_is c.args.joint.now.bucket.now.heads.now c.args.one.now.head _ c.requires.head.head c.requires.head.stands)) c.requires.head.follows

pub returns : goal.returns
returns c = λ h got. subst (λ x. SeekDown c.args.joint.now c.args.sought.now (x ∷ []) (c.args.onward.now.tail.now ∷ []) c.args.least c.with_pair.result) (got_is c.args.joint.now.bucket.now.heads.now c.args.one.now.head _ h got) c.with_pair.ensures
