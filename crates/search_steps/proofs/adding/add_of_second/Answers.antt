use Rattle.search_steps.specs.Giving.{UnitBy}
use Rattle.search_steps.proofs.ListsByNumber.{adds_next, adds_none, adds_whole}
use Rattle.search_steps.proofs.adding.add_of_second.Goals as goal

pub loop-step-init : goal.loop-step-init
loop-step-init c = adds_none (λ r. UnitBy r 1) c.args.key c.args.found.now.items

pub loop-step-preserved : goal.loop-step-preserved
loop-step-preserved c = adds_next (λ r. UnitBy r 1) c.args.key c.args.steps.now c.loop-step.step-index _ c.args.found.now.items c.loop-step.found.items c.add_in_second.new.found.items c.loop-step-test.true c.loop-step.invariant c.in_ok-add_in_second.ensures

pub returns : goal.returns
returns c = adds_whole (λ r. UnitBy r 1) c.args.key c.args.steps.now c.loop-step.step-index c.args.found.now.items c.loop-step.found.items c.loop-step-test.false c.loop-step.invariant
