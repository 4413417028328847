use Rattle.std.proofs.Common.{true}
use Rattle.search_steps.specs.Giving.{LeftBy}
use Rattle.search_steps.proofs.LeftByNumber.{alone_one}
use Rattle.search_steps.proofs.ListsByNumber.{adds_next, adds_none, adds_whole}
use Rattle.search_steps.proofs.adding.add_alone.Goals as goal

pub loop-step-init : goal.loop-step-init
loop-step-init c = adds_none (λ r. LeftBy r true r.units) c.args.key c.args.found.now.items

pub loop-step-preserved : goal.loop-step-preserved
loop-step-preserved c = adds_next (λ r. LeftBy r true r.units) c.args.key c.args.steps.now c.loop-step.step-index _ c.args.found.now.items c.loop-step.found.items c.add_left.new.found.items c.loop-step-test.true c.loop-step.invariant (alone_one c.args.key _ c.loop-step.found.items c.add_left.new.found.items c.in_ok-add_left.ensures)

pub returns : goal.returns
returns c = adds_whole (λ r. LeftBy r true r.units) c.args.key c.args.steps.now c.loop-step.step-index c.args.found.now.items c.loop-step.found.items c.loop-step-test.false c.loop-step.invariant
