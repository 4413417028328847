use Rattle.std.proofs.Common.{subst}
use Rattle.serde_json.proofs.Views.{view-Array}
use Rattle.serde_json.specs.View.{items_view}
use Rattle.rule_text.specs.Written.{WritesEach}
use Rattle.rule_text.proofs.part.ArrayVecRulePart.part_value.Goals as goal

pub returns : goal.returns
returns g c =
    let items = items_view c.in_ok-item_values.field-0.items in record {
      items = items;
      each = subst (λ xs. WritesEach g.T.RulePart.writes xs items) c.as_slice.ensures.items c.in_ok-item_values.ensures;
      written = view-Array c.in_ok-item_values.field-0;
    }
