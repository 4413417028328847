use Rattle.std.proofs.Common.{◌∙◌, ap, codes, [], ◌∷◌, refl}
use Rattle.serde_json.proofs.Views.{view-Object}
use Rattle.serde_json.specs.Data.{object}
use Rattle.serde_json.specs.View.{members_view}
use Rattle.rule_text.specs.Written.{put_if}
use Rattle.rule_text.proofs.MemberLemmas.{built_in_order}
use Rattle.rule_text.proofs.categories.TravelRuleRulePart.part_value.Goals as goal

pub returns : goal.returns
returns c =
    let by = c.in_ok-put_optional.ensures in
    let ranges = c.in_ok-put_optional-2.ensures in record {
      by = by.value;
      by_is = by.writes;
      ranges = ranges.value;
      ranges_are = ranges.writes;
      written = view-Object c.put_optional-2.new.members ∙ ap object (
          ranges.put ∙ ap (put_if (codes "ranges") ranges.value) (by.put ∙ ap (put_if (codes "by") by.value) (ap members_view c.new-members.ensures.empty))
          ∙ built_in_order ((codes "ranges", ranges.value) ∷ (codes "by", by.value) ∷ []) refl);
    }
