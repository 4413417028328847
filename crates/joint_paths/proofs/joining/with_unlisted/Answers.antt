use Rattle.std.proofs.Common.{[], ◌∷◌, subst, sym}
use Rattle.fare_ends.proofs.RungFacts.{share_low}
use Rattle.joint_paths.specs.Tails.{IsJoinTail}
use Rattle.joint_paths.specs.Joins.{SeekDown}
use Rattle.joint_paths.proofs.JoinSteps.{pair_unfit, read_nothing}
use Rattle.law_lemmas.proofs.EachOne.{each_got}
use Rattle.law_lemmas.proofs.Lists.{got_is, got_read}
use Rattle.law_lemmas.proofs.Members.{got_in, in_list}
use Rattle.law_lemmas.proofs.Tests.{not_so}
use Rattle.joint_paths.proofs.joining.with_unlisted.Goals as goal

pub returns-in_default : goal.returns-in_default
returns-in_default c = λ h got. read_nothing c.args.joint.now c.args.sought.now c.args.onward.now.tail.now c.args.least c.args.number _ h got (sym c.in_default.ensures)

pub may_lower-requires-clause-head : goal.may_lower-requires-clause-head
may_lower-requires-clause-head c =
    let s = c.requires.sought in
    record { stands = got_read c.args.joint.now.bucket.now.heads.now c.args.number _ c.requires.head; share_is = sym c.in-Some.ensures; low = share_low s.fares c.args.sought.now.rungs.now _ c.in-Some.share s.rungs (sym c.in-Some.ensures) }

pub returns-then-not-may_lower : goal.returns-then-not-may_lower
returns-then-not-may_lower c = λ h got. subst (λ x. SeekDown c.args.joint.now c.args.sought.now (x ∷ []) (c.args.onward.now.tail.now ∷ []) c.args.least c.args.least) (got_is c.args.joint.now.bucket.now.heads.now c.args.number _ h got) (c.may_lower.ensures c.if-not-may_lower.true)

pub fits-requires-clause-head : goal.fits-requires-clause-head
fits-requires-clause-head c = in_list c.args.joint.now.bucket.now.heads.now c.args.number _ c.requires.head

pub fits-requires-clause-tail : goal.fits-requires-clause-tail
fits-requires-clause-tail c =
    let j = c.args.joint.now in
    let k = j.bucket.now in
    each_got (IsJoinTail k.case.now.book.now k.case.now.request.now k.paths.now) j.tails.now c.args.onward.now.at c.args.onward.now.tail.now c.requires.joint.tails c.requires.onward.stands

pub returns-then-not-fits : goal.returns-then-not-fits
returns-then-not-fits c = λ h got. subst (λ x. SeekDown c.args.joint.now c.args.sought.now (x ∷ []) (c.args.onward.now.tail.now ∷ []) c.args.least c.args.least) (got_is c.args.joint.now.bucket.now.heads.now c.args.number _ h got)
    (pair_unfit c.args.joint.now c.args.sought.now _ c.args.onward.now.tail.now c.args.least (not_so c.fits.result c.if-not-fits.true c.fits.ensures.1))

pub with_pair-requires-clause-tail : goal.with_pair-requires-clause-tail
with_pair-requires-clause-tail c = got_in c.args.joint.now.tails.now c.args.onward.now.at c.args.onward.now.tail.now c.requires.onward.stands

pub with_pair-requires-clause-head : goal.with_pair-requires-clause-head
with_pair-requires-clause-head c =
    let s = c.requires.sought in
    record { stands = got_read c.args.joint.now.bucket.now.heads.now c.args.number _ c.requires.head; share_is = sym c.in-Some.ensures; low = share_low s.fares c.args.sought.now.rungs.now _ c.in-Some.share s.rungs (sym c.in-Some.ensures) }

pub with_pair-requires-clause-follows : goal.with_pair-requires-clause-follows
with_pair-requires-clause-follows c = c.fits.ensures.0 c.if-not-fits.false

pub returns : goal.returns
returns c = λ h got. subst (λ x. SeekDown c.args.joint.now c.args.sought.now (x ∷ []) (c.args.onward.now.tail.now ∷ []) c.args.least c.with_pair.result) (got_is c.args.joint.now.bucket.now.heads.now c.args.number _ h got) c.with_pair.ensures
