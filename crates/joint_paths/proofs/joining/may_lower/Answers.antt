use Rattle.std.proofs.Common.{◌+◌, None, Some, arith}
use Rattle.joint_paths.proofs.CostFacts.{not_less}
use Rattle.joint_paths.proofs.JoinSteps.{added_low, head_says, pair_dearer, pair_head_refused}
use Rattle.law_lemmas.proofs.Lists.{got_within}
use Rattle.law_lemmas.proofs.Tests.{not_so}
use Rattle.joint_paths.proofs.joining.may_lower.Goals as goal

pub charges-requires : goal.charges-requires
charges-requires c =
    let one = c.args.one.now in
    let x = c.requires.sought.ruled.each one.number one.head.now c.requires.head.stands in
    got_within c.args.room.now.ruled.charges.items _ x.said x.stands

pub returns-in-Some : goal.returns-in-Some
returns-in-Some c = λ e.
    let j = c.args.joint.now in
    let s = c.args.sought.now in
    let o = c.args.onward.now in
    let one = c.args.one.now in
    let charges = c.in-Some.charges in
    let says = head_says j c.args.room.now s c.requires.sought one.number one.head.now c.requires.head.stands (Some charges) c.in-Some.ensures in
    pair_dearer j s one.head.now o.tail.now c.args.least one.share o.added c.requires.head.share_is c.requires.onward.adds charges says (not_less c.args.least (one.share + charges + o.added) (not_so c.is_less.result e c.is_less.ensures.1))

pub returns-in-None : goal.returns-in-None
returns-in-None c = λ e.
    let j = c.args.joint.now in
    let s = c.args.sought.now in
    let one = c.args.one.now in
    pair_head_refused j s one.head.now c.args.onward.now.tail.now c.args.least (head_says j c.args.room.now s c.requires.sought one.number one.head.now c.requires.head.stands None c.in-None.ensures)

pub overflow_add-one : goal.overflow_add-one
overflow_add-one c =
    let one = c.args.one.now in
    let charges = (head_says c.args.joint.now c.args.room.now c.args.sought.now c.requires.sought one.number one.head.now c.requires.head.stands (Some c.in-Some.charges) c.in-Some.ensures).0 in
    let share = c.requires.head.low in
    omega (arith, charges, share)

pub overflow_add-one-in-Some : goal.overflow_add-one-in-Some
overflow_add-one-in-Some c =
    let one = c.args.one.now in
    let o = c.args.onward.now in
    let charges = (head_says c.args.joint.now c.args.room.now c.args.sought.now c.requires.sought one.number one.head.now c.requires.head.stands (Some c.in-Some.charges) c.in-Some.ensures).0 in
    let share = c.requires.head.low in
    let added = added_low c.args.joint.now c.args.sought.now c.requires.joint o.at o.tail.now c.requires.onward.stands o.added c.requires.onward.adds in
    omega (arith, charges, share, added)
