use Rattle.std.proofs.Common.{[], ◌∷◌, append-nil, sym, ◌∙◌}
use Rattle.joint_paths.proofs.FitFacts.{adds_none, adds_one}
use Rattle.law_lemmas.proofs.Lists.{prefix_self}
use Rattle.joint_paths.proofs.fitting.Fitting.add_head.Goals as goal

pub returns-in_default-clause-heads : goal.returns-in_default-clause-heads
returns-in_default-clause-heads c = prefix_self c.args.self.now.heads.items

pub returns-in_default-clause-added : goal.returns-in_default-clause-added
returns-in_default-clause-added c = adds_none c.args.bucket.now c.args.tail.now c.args.at c.args.self.now.heads.items c.in_default.ensures.none

pub returns-in_err-push-clause-heads : goal.returns-in_err-push-clause-heads
returns-in_err-push-clause-heads c = ([], c.in_err-push.ensures.items ∙ sym (append-nil c.args.self.now.heads.items))

pub returns-clause-heads : goal.returns-clause-heads
returns-clause-heads c = (c.in-Some.one ∷ [], c.in_ok-push.ensures.items)

pub returns-clause-added : goal.returns-clause-added
returns-clause-added c = adds_one c.args.bucket.now c.args.tail.now c.args.at c.args.self.now.heads.items _ c.in-Some.one c.in_ok-push.ensures.items c.in-Some.ensures.some.0 c.in-Some.ensures.some.1
