use Rattle.std.proofs.Common.{◌∙◌}
use Rattle.request_text.proofs.TurnLemmas.{turn_is}
use Rattle.request_text.proofs.limits.allowed.Goals as goal

pub returns-clause-value : goal.returns-clause-value
returns-clause-value c = c.in_turn.ensures.value ∙ turn_is c.args.asked.now c.requires
