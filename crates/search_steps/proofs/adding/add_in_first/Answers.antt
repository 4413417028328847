use Rattle.std.proofs.lemmas.Result.{on_ok_weaker}
use Rattle.search_steps.proofs.LeftByNumber.{closes_first, goes_on_first}
use Rattle.search_steps.proofs.adding.add_in_first.Goals as goal

pub returns-then-step-eq0 : goal.returns-then-step-eq0
returns-then-step-eq0 c = on_ok_weaker c.add_left.result (λ g. closes_first c.args.key c.args.step.now c.args.found.now.items c.add_left.new.found.items c.requires.is_open c.if-step-eq0.true g) c.add_left.ensures

pub returns-else-step-eq0 : goal.returns-else-step-eq0
returns-else-step-eq0 c = on_ok_weaker c.add_left-else-step-eq0.result (λ g. goes_on_first c.args.key c.args.step.now c.args.found.now.items c.add_left-else-step-eq0.new.found.items c.requires.is_open c.if-step-eq0.false g) c.add_left-else-step-eq0.ensures
