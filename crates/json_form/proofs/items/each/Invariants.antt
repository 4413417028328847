use Rattle.std.proofs.Common.{◌≡◌, drop}
use Rattle.serde_json.specs.View.{items_view}
use Rattle.fare_law.specs.Lists.{Each}
use Rattle.json_form.specs.Items.{each_item}
use Rattle.json_form.proofs.ItemLemmas.{after}
use Rattle.json_form.proofs.items.each.Given as goal

abbrev pub invariant-loop-item : goal.invariant-loop-item
invariant-loop-item g l = record {
  rest : after l.found (each_item g.T.FromJson.form (items_view (drop l.item-index l.items))) ≡ each_item g.T.FromJson.form (items_view l.items);
  holds : Each g.T.FromJson.holds l.found;
}
