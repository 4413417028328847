use Rattle.std.proofs.Common.{take}
use Rattle.serde_json.specs.View.{items_view}
use Rattle.fare_filing.specs.Text.{WritesActions}
use Rattle.fare_filing.proofs.text.action_values.Given as goal

abbrev pub invariant-loop-action : goal.invariant-loop-action
invariant-loop-action l = WritesActions (take l.action-index l.actions) (items_view l.values.items)
