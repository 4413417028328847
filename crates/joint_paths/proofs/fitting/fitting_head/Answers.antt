use Rattle.std.proofs.Common.{ap, bit_and, refl, subst, sym, ◌∙◌}
use Rattle.joint_paths.specs.declared.crossing_heads.CrossingHead.{CrossingHead}
use Rattle.joint_paths.specs.Heads.{FollowsOn}
use Rattle.law_lemmas.proofs.Lists.{got_is, got_read}
use Rattle.law_lemmas.proofs.Members.{in_list}
use Rattle.law_lemmas.proofs.Tests.{not_so}
use Rattle.joint_paths.proofs.fitting.fitting_head.Goals as goal

pub fits-requires-clause-head : goal.fits-requires-clause-head
fits-requires-clause-head c = in_list c.args.bucket.now.heads.now c.args.at _ c.requires.place

pub returns-then-classes-eq0-clause-none : goal.returns-then-classes-eq0-clause-none
returns-then-classes-eq0-clause-none c = λ h got f ne. ne (ap (λ (x : CrossingHead). bit_and x.classes c.args.tail.now.classes) (sym (got_is c.args.bucket.now.heads.now c.args.at _ h got)) ∙ c.if-classes-eq0.true)

pub returns-then-not-fits-clause-none : goal.returns-then-not-fits-clause-none
returns-then-not-fits-clause-none c = λ h got f ne. not_so c.fits.result c.if-not-fits.true c.fits.ensures.1 (subst (λ x. FollowsOn c.args.bucket.now x c.args.tail.now) (sym (got_is c.args.bucket.now.heads.now c.args.at _ h got)) f)

pub returns-clause-some : goal.returns-clause-some
returns-clause-some c = (record { head = _; stands = got_read c.args.bucket.now.heads.now c.args.at _ c.requires.place; follows = c.fits.ensures.0 c.if-not-fits.false; classes = refl }, refl)
