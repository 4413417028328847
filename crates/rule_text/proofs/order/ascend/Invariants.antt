use Rattle.std.proofs.Common.{◌≡◌, drop}
use Rattle.rule_text.specs.Parts.{ascend_from}
use Rattle.rule_text.proofs.order.ascend.Given as goal

abbrev pub invariant-loop-item : goal.invariant-loop-item
invariant-loop-item g l = ascend_from g.T.Ranked.rank l.least (drop l.item-index l.items) ≡ ascend_from g.T.Ranked.rank 0 l.items
