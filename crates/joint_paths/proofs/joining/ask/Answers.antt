use Rattle.joint_paths.proofs.SaidFacts.{said_turned}
use Rattle.joint_paths.specs.Ruled.{SaysOfTailAt}
use Rattle.joint_paths.proofs.JoinSteps.{fits_said}
use Rattle.std.proofs.Common.{length}
use Rattle.law_lemmas.proofs.Tests.{true_false}
use Rattle.joint_paths.proofs.joining.ask.Goals as goal

pub returns-then-sought-clause-charges : goal.returns-then-sought-clause-charges
returns-then-sought-clause-charges c = λ e. absurd (true_false c.if-sought.true e)

pub returns-clause-room : goal.returns-clause-room
returns-clause-room c =
    let j = c.args.joint.now in
    let room = c.args.room.now in
    record {
      ruled = c.requires.room.ruled;
      fits = fits_said j room.fitting c.turn_to.new.self c.requires.room.fits;
      said = said_turned (SaysOfTailAt j.bucket.now.case.now.book.now j.fares.now.rules.of.items j.bucket.now.paths.now j.tails.now) (length j.tails.now) c.args.sought.now.number room.fitting.charges c.turn_to.new.self c.turn_to.ensures.stays c.in_ok-turn_to.ensures.anew c.requires.room.said;
    }

pub returns-clause-charges : goal.returns-clause-charges
returns-clause-charges c = λ e. c.in_ok-turn_to.ensures.rule
