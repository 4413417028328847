use Rattle.std.proofs.Common.{take}
use Rattle.serde_json.specs.View.{items_view}
use Rattle.request_text.specs.Text.{WritesSlices}
use Rattle.request_text.proofs.text.slice_values.Given as goal

abbrev pub invariant-loop-slice : goal.invariant-loop-slice
invariant-loop-slice l = WritesSlices (take l.slice-index l.slices) (items_view l.values.items)
