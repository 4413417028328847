use Rattle.std.proofs.lemmas.Result.{on_ok_weaker}
use Rattle.search_steps.proofs.LeftByNumber.{in_second}
use Rattle.search_steps.proofs.adding.add_in_second.Goals as goal

pub returns : goal.returns
returns c = on_ok_weaker c.add_left.result (λ g. in_second c.args.key c.args.step.now c.args.found.now.items c.add_left.new.found.items c.requires.is_open g) c.add_left.ensures
