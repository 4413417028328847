use Rattle.std.proofs.Common.{◌≡◌, length, drop}
use Rattle.serde_json.specs.View.{items_view}
use Rattle.fare_law.specs.Lists.{Each}
use Rattle.rule_text.specs.Members.{each_of}
use Rattle.rule_text.proofs.ItemLemmas.{after}
use Rattle.rule_text.proofs.part.read_each.Given as goal

abbrev pub invariant-loop-item : goal.invariant-loop-item
invariant-loop-item g l = record {
  rest : after l.found (each_of g.T.RulePart.form (items_view (drop l.item-index l.items))) ≡ each_of g.T.RulePart.form (items_view l.items);
  holds : Each g.T.RulePart.holds l.found;
  count : length l.found ≡ l.item-index;
}
