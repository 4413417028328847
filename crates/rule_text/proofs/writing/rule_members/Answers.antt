use Rattle.std.proofs.Common.{◌∙◌, ap, codes, refl}
use Rattle.serde_json.specs.View.{members_view}
use Rattle.rule_text.specs.Written.{put_if}
use Rattle.rule_text.proofs.MemberLemmas.{built_in_order}
use Rattle.rule_text.proofs.RuleLemmas.{last_first}
use Rattle.rule_text.proofs.SpelledLemmas.{rule_spelled}
use Rattle.rule_text.proofs.writing.rule_members.Goals as goal

pub returns-clause-written : goal.returns-clause-written
returns-clause-written c =
    let cat10 = c.in_ok-put_optional.ensures in
    let cat12 = c.in_ok-put_optional-2.ensures in
    let cat14 = c.in_ok-put_optional-3.ensures in
    let cat2 = c.in_ok-put_optional-4.ensures in
    let cat3 = c.in_ok-put_optional-5.ensures in
    let cat4 = c.in_ok-put_optional-6.ensures in
    let cat5 = c.in_ok-put_optional-7.ensures in
    let cat6 = c.in_ok-put_optional-8.ensures in
    let cat7 = c.in_ok-put_optional-9.ensures in
    let cat8 = c.in_ok-put_optional-10.ensures in
    let cat9 = c.in_ok-put_optional-11.ensures in record {
      data10 = cat10.value;
      cat10 = cat10.writes;
      data12 = cat12.value;
      cat12 = cat12.writes;
      data14 = cat14.value;
      cat14 = cat14.writes;
      data2 = cat2.value;
      cat2 = cat2.writes;
      data3 = cat3.value;
      cat3 = cat3.writes;
      data4 = cat4.value;
      cat4 = cat4.writes;
      data5 = cat5.value;
      cat5 = cat5.writes;
      data6 = cat6.value;
      cat6 = cat6.writes;
      data7 = cat7.value;
      cat7 = cat7.writes;
      data8 = cat8.value;
      cat8 = cat8.writes;
      data9 = cat9.value;
      cat9 = cat9.writes;
      written = cat9.put ∙ ap (put_if (codes "cat9") cat9.value) (cat8.put ∙ ap (put_if (codes "cat8") cat8.value) (cat7.put ∙ ap (put_if (codes "cat7") cat7.value) (cat6.put ∙ ap (put_if (codes "cat6") cat6.value) (cat5.put ∙ ap (put_if (codes "cat5") cat5.value) (cat4.put ∙ ap (put_if (codes "cat4") cat4.value) (cat3.put ∙ ap (put_if (codes "cat3") cat3.value) (cat2.put ∙ ap (put_if (codes "cat2") cat2.value) (cat14.put ∙ ap (put_if (codes "cat14") cat14.value) (cat12.put ∙ ap (put_if (codes "cat12") cat12.value) (cat10.put ∙ ap (put_if (codes "cat10") cat10.value) (ap members_view c.new-members.ensures.empty)))))))))))
          ∙ built_in_order (last_first cat10.value cat12.value cat14.value cat2.value cat3.value cat4.value cat5.value cat6.value cat7.value cat8.value cat9.value) refl;
    }

pub returns-clause-again : goal.returns-clause-again
returns-clause-again c = rule_spelled c.args.rule.now _ (returns-clause-written c) c.requires
