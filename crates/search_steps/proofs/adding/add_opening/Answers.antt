use Rattle.search_steps.specs.Giving.{OpenedBy}
use Rattle.search_steps.proofs.ListsByNumber.{adds_next, adds_none, adds_whole, no_opening}
use Rattle.search_steps.proofs.adding.add_opening.Goals as goal

pub loop-step-init : goal.loop-step-init
loop-step-init c = adds_none OpenedBy c.args.key c.args.found.now.items

pub loop-step-preserved : goal.loop-step-preserved
loop-step-preserved c = adds_next OpenedBy c.args.key c.args.steps.now c.loop-step.step-index _ c.args.found.now.items c.loop-step.found.items c.add_opened.new.found.items c.loop-step-test.true c.loop-step.invariant c.in_ok-add_opened.ensures

pub returns-then-key-ne0 : goal.returns-then-key-ne0
returns-then-key-ne0 c = no_opening c.args.key c.args.steps.now c.args.found.now.items c.if-key-ne0.true

pub returns : goal.returns
returns c = adds_whole OpenedBy c.args.key c.args.steps.now c.loop-step.step-index c.args.found.now.items c.loop-step.found.items c.loop-step-test.false c.loop-step.invariant
