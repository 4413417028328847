use Rattle.std.proofs.Common.{[], sym, subst}
use Rattle.search_steps.specs.Shortening.{IsShorter}
use Rattle.search_steps.proofs.Shorter.{shorter_next, shorter_none}
use Rattle.search_steps.proofs.shortening.shortened.Goals as goal

pub loop-step-init : goal.loop-step-init
loop-step-init c = subst (IsShorter []) (sym c.new-kept.ensures.items) shorter_none

pub loop-step-preserved : goal.loop-step-preserved
loop-step-preserved c = shorter_next c.args.steps.now c.loop-step.step-index _ c.loop-step.kept.items c.add_once.new.kept.items c.loop-step-test.true c.in_ok-add_once.ensures c.loop-step.invariant
