use Rattle.serving.proofs.LineSteps.{opening_all, opening_more, opening_none}
use Rattle.serving.proofs.headings.push_opening.Goals as goal

pub loop-before-init : goal.loop-before-init
loop-before-init c = opening_none _

pub loop-before-preserved : goal.loop-before-preserved
loop-before-preserved c = opening_more c.args.text.now.items c.loop-before.text.items c.push_opening_entry.new.text.items c.loop-before.before c.loop-before.invariant c.in_ok-push_opening_entry.ensures

pub returns : goal.returns
returns c = opening_all c.args.text.now.items c.loop-before.text.items c.loop-before.before c.args.opening c.loop-before-test.false c.loop-before.auto.before-end c.loop-before.invariant
