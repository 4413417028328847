use Rattle.std.proofs.Common.{take}
use Rattle.serde_json.specs.View.{items_view}
use Rattle.rule_text.specs.Written.{WritesEach}
use Rattle.rule_text.proofs.part.item_values.Given as goal

abbrev pub invariant-loop-item : goal.invariant-loop-item
invariant-loop-item g l = WritesEach g.T.RulePart.writes (take l.item-index l.items) (items_view l.values.items)
