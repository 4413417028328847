use Rattle.std.proofs.lemmas.Result.{on_ok_weaker}
use Rattle.search_steps.proofs.LeftByNumber.{opens_first, opens_not, opens_second}
use Rattle.search_steps.proofs.adding.add_opened.Goals as goal

pub returns-then-step-eq0 : goal.returns-then-step-eq0
returns-then-step-eq0 c = opens_not c.args.key c.args.step.now c.args.found.now.items c.args.found.now.items c.if-step-eq0.true

pub returns-then-key-eq0 : goal.returns-then-key-eq0
returns-then-key-eq0 c =
    on_ok_weaker c.add_left.result (λ g. opens_first c.args.key c.args.step.now c.args.found.now.items c.add_left.new.found.items c.requires.room c.if-step-eq0.false c.if-key-eq0.true g) c.add_left.ensures

pub returns-else-key-eq0 : goal.returns-else-key-eq0
returns-else-key-eq0 c =
    on_ok_weaker c.add_left-else-key-eq0.result (λ g. opens_second c.args.key c.args.step.now c.args.found.now.items c.add_left-else-key-eq0.new.found.items c.requires.room c.if-step-eq0.false c.if-key-eq0.false g) c.add_left-else-key-eq0.ensures
