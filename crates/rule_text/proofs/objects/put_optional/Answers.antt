use Rattle.serde_json.specs.View.{view}
use Rattle.rule_text.proofs.MemberLemmas.{puts_some}
use Rattle.rule_text.proofs.objects.put_optional.Goals as goal

pub returns-in_ok-put-in-Some : goal.returns-in_ok-put-in-Some
returns-in_ok-put-in-Some g c =
    puts_some g.T.RulePart.writes c.args.part.now c.in-Some.part c.args.name.now (view c.in_ok-part_value-in-Some.field-0) _ _
    c.in-Some.is c.in_ok-part_value-in-Some.ensures c.in_ok-put-in-Some.ensures.ok
