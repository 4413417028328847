use Rattle.joint_paths.proofs.SeekSteps.{pair_down, pair_refused}
use Rattle.law_lemmas.proofs.Members.{got_in}
use Rattle.joint_paths.proofs.joining.with_pair.Goals as goal

pub pair_charges-requires-clause-head : goal.pair_charges-requires-clause-head
pair_charges-requires-clause-head c = got_in c.args.joint.now.bucket.now.heads.now c.args.one.now.number c.args.one.now.head.now c.requires.head.stands

pub returns-in-Some : goal.returns-in-Some
returns-in-Some c =
    let j = c.args.joint.now in
    let k = j.bucket.now in
    let one = c.args.one.now in
    pair_down k c.args.sought.now.rule.now c.args.sought.now.rungs.now one.head.now c.args.onward.now.tail.now k.heads.now j.tails.now (got_in k.heads.now one.number one.head.now c.requires.head.stands) c.requires.tail c.requires.follows one.share c.in-Some.charges c.lesser.result c.args.least c.requires.head.low c.in-Some.ensures.low c.requires.head.share_is c.in-Some.ensures.some c.lesser.ensures.below c.lesser.ensures.least c.lesser.ensures.one

pub returns-in-None : goal.returns-in-None
returns-in-None c =
    let j = c.args.joint.now in
    let k = j.bucket.now in
    let one = c.args.one.now in
    pair_refused k c.args.sought.now.rule.now c.args.sought.now.rungs.now one.head.now c.args.onward.now.tail.now k.heads.now j.tails.now (got_in k.heads.now one.number one.head.now c.requires.head.stands) c.requires.tail c.requires.follows c.args.least c.in-None.ensures.none
