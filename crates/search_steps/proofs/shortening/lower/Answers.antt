use Rattle.search_steps.proofs.Shorter.{lower_had, lower_put}
use Rattle.search_steps.proofs.shortening.lower.Goals as goal

pub returns-then-step-known : goal.returns-then-step-known
returns-then-step-known c = lower_put c.args.kept.now c.args.place c.args.step.now _ c.requires c.if-step-known.true

pub returns-else-step-known : goal.returns-else-step-known
returns-else-step-known c = lower_had c.args.kept.now c.args.place c.args.step.now _ c.requires c.if-step-known.false
