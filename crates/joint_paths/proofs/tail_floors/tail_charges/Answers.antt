use Rattle.std.proofs.Common.{Some, None, get_or, length, ◌∙◌, arith}
use Rattle.joint_paths.specs.declared.rule_charges.Charged.TheVariants.{Refused, Permitted}
use Rattle.joint_paths.specs.declared.tail_classes.JoinTail.{JoinTail}
use Rattle.joint_paths.proofs.SaidFacts.{said_put}
use Rattle.joint_paths.specs.Ruled.{SaysOfTailAt}
use Rattle.joint_paths.proofs.JoinSteps.{added_low, at_says, fits_said, says_at, tail_free}
use Rattle.law_lemmas.proofs.Lists.{got_read}
use Rattle.law_lemmas.proofs.Options.{some_one}
use Rattle.joint_paths.proofs.tail_floors.tail_charges.Goals as goal

abbrev no_tail : JoinTail
no_tail = record { number = 0; first = 0; count = 0; classes = 0; mark = 0 }

pub returns-then-sought-clause-says : goal.returns-then-sought-clause-says
returns-then-sought-clause-says c = λ t e. tail_free c.args.joint.now c.args.sought.now t (c.requires.sought.own.free c.if-sought.true)

pub get-requires : goal.get-requires
get-requires c =
    let many = (c.requires.room.said c.args.sought.now.number (c.requires.charges c.if-sought.false)).0 in
    omega (arith, many, c.requires.tail)

pub returns-in-Permitted-clause-says : goal.returns-in-Permitted-clause-says
returns-in-Permitted-clause-says c =
    let j = c.args.joint.now in
    let s = c.args.sought.now in
    let said = (c.requires.room.said s.number (c.requires.charges c.if-sought.false)).1 c.args.at (Permitted c.in-Permitted.added) c.in-Permitted.ensures in
    says_at j c.requires.joint s c.requires.sought.stands c.args.at (Some c.in-Permitted.added) said

pub returns-in-Permitted-clause-low : goal.returns-in-Permitted-clause-low
returns-in-Permitted-clause-low c =
    let j = c.args.joint.now in
    let s = c.args.sought.now in
    let t = get_or j.tails.now c.args.at no_tail in
    let there = got_read j.tails.now c.args.at no_tail c.requires.tail in
    let said = (c.requires.room.said s.number (c.requires.charges c.if-sought.false)).1 c.args.at (Permitted c.in-Permitted.added) c.in-Permitted.ensures in
    added_low j s c.requires.joint c.args.at t there c.in-Permitted.added (says_at j c.requires.joint s c.requires.sought.stands c.args.at (Some c.in-Permitted.added) said t there)

pub returns-in-Refused-clause-says : goal.returns-in-Refused-clause-says
returns-in-Refused-clause-says c =
    let j = c.args.joint.now in
    let s = c.args.sought.now in
    let said = (c.requires.room.said s.number (c.requires.charges c.if-sought.false)).1 c.args.at Refused c.in-Refused.ensures in
    says_at j c.requires.joint s c.requires.sought.stands c.args.at None said

pub put-requires : goal.put-requires
put-requires c =
    let many = (c.requires.room.said c.args.sought.now.number (c.requires.charges c.if-sought.false)).0 in
    omega (arith, many, c.requires.tail)

pub asked_charges-added-requires-clause-rule : goal.asked_charges-added-requires-clause-rule
asked_charges-added-requires-clause-rule c = c.requires.sought.own

pub returns-in-NotAsked-clause-room : goal.returns-in-NotAsked-clause-room
returns-in-NotAsked-clause-room c =
    let j = c.args.joint.now in
    let s = c.args.sought.now in
    let room = c.args.room.now in
    let asked = c.requires.charges c.if-sought.false in
    record {
      ruled = c.requires.room.ruled;
      fits = fits_said j room.fitting c.put.new.self c.requires.room.fits;
      said = said_put (SaysOfTailAt j.bucket.now.case.now.book.now j.fares.now.rules.of.items j.bucket.now.paths.now j.tails.now) (length j.tails.now) c.args.at c.asked_charges-added.result room.fitting.charges c.put.new.self c.put.ensures.rule c.put.ensures.puts
          (λ rule is. at_says j s c.requires.sought.stands c.args.at c.asked_charges-added.result c.asked_charges-added.ensures.says rule (some_one room.fitting.charges.rule rule s.number is asked)) c.requires.room.said;
    }

pub returns-in-NotAsked-clause-charges : goal.returns-in-NotAsked-clause-charges
returns-in-NotAsked-clause-charges c = λ e. c.put.ensures.rule ∙ c.requires.charges e
