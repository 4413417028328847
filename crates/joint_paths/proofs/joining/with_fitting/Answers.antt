use Rattle.std.proofs.Common.{[], ◌∷◌, get_or, take, sym, subst}
use Rattle.std.proofs.lemmas.List.{take_all}
use Rattle.joint_paths.proofs.CostFacts.{not_less}
use Rattle.joint_paths.specs.declared.fitting.FittingHead.{FittingHead}
use Rattle.fare_law.specs.Lists.{Each}
use Rattle.joint_paths.specs.Fits.{IsFitting}
use Rattle.joint_paths.specs.Joins.{IsJoinedOf, PathsOf}
use Rattle.joint_paths.proofs.SeekSteps.{IsListedPair, SeekListed, listed_all, listed_more, listed_none, seek_stop}
use Rattle.law_lemmas.proofs.EachOne.{each_at}
use Rattle.law_lemmas.proofs.Lists.{front_at, got_within}
use Rattle.law_lemmas.proofs.Tests.{not_so}
use Rattle.joint_paths.proofs.joining.with_fitting.Goals as goal

abbrev no_head : FittingHead
no_head = record { head = 0; classes = 0 }

pub heads-heads-requires : goal.heads-heads-requires
heads-heads-requires c = c.requires.listed.range

pub loop-one-init : goal.loop-one-init
loop-one-init c = listed_none c.args.joint.now c.args.sought.now c.args.onward.now.tail.now c.args.least

pub with_listed-low-requires-clause-head : goal.with_listed-low-requires-clause-head
with_listed-low-requires-clause-head c =
    let k = c.args.joint.now.bucket.now in
    let t = c.args.onward.now.tail.now in
    let hs = c.heads-heads.result.now in
    each_at (IsFitting k t) hs c.loop-one.one-index no_head (subst (Each (IsFitting k t)) (sym c.heads-heads.ensures) c.requires.listed.each) c.loop-one-test.true

pub with_listed-low-requires-clause-place : goal.with_listed-low-requires-clause-place
with_listed-low-requires-clause-place c =
    let k = c.args.joint.now.bucket.now in
    let t = c.args.onward.now.tail.now in
    let hs = c.heads-heads.result.now in
    let one = get_or hs c.loop-one.one-index no_head in
    let fits = each_at (IsFitting k t) hs c.loop-one.one-index no_head (subst (Each (IsFitting k t)) (sym c.heads-heads.ensures) c.requires.listed.each) c.loop-one-test.true in
    got_within k.heads.now one.head fits.head fits.stands

pub returns-then-not-is_less : goal.returns-then-not-is_less
returns-then-not-is_less c =
    let j = c.args.joint.now in
    let k = j.bucket.now in
    let s = c.args.sought.now in
    let o = c.args.onward.now in
    seek_stop s.rule.now s.rungs.now (PathsOf j j.tails.now) (IsListedPair j (take c.loop-one.one-index c.heads-heads.result.now) o.tail.now) (IsJoinedOf k k.heads.now (o.tail.now ∷ [])) o.floor c.args.least c.loop-one.low c.loop-one.invariant
    c.requires.onward.floor (not_less c.loop-one.low o.floor (not_so c.is_less.result c.if-not-is_less.true c.is_less.ensures.1))

pub loop-one-preserved : goal.loop-one-preserved
loop-one-preserved c =
    let j = c.args.joint.now in
    let s = c.args.sought.now in
    let k = j.bucket.now in
    let t = c.args.onward.now.tail.now in
    let hs = c.heads-heads.result.now in
    let i = c.loop-one.one-index in
    let one = get_or hs i no_head in
    let fits = each_at (IsFitting k t) hs i no_head (subst (Each (IsFitting k t)) (sym c.heads-heads.ensures) c.requires.listed.each) c.loop-one-test.true in
    subst (λ xs. SeekListed j s xs t c.args.least c.with_listed-low.result) (sym (front_at hs i no_head c.loop-one-test.true))
    (listed_more j s t c.args.least (take i hs) one fits.head fits.stands c.loop-one.low c.with_listed-low.result c.loop-one.invariant (c.with_listed-low.ensures fits.head fits.stands))

pub returns : goal.returns
returns c =
    let hs = c.heads-heads.result.now in
    listed_all c.args.joint.now c.args.sought.now c.args.onward.now.tail.now c.args.least c.args.room.now.fitting.heads.items c.args.range hs c.heads-heads.ensures c.requires.listed c.loop-one.low
    (subst (λ xs. SeekListed c.args.joint.now c.args.sought.now xs c.args.onward.now.tail.now c.args.least c.loop-one.low) (take_all c.loop-one.one-index hs c.loop-one-test.false) c.loop-one.invariant)
