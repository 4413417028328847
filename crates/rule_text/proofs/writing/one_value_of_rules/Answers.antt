use Rattle.rule_text.proofs.OneText.{one_rule}
use Rattle.rule_text.proofs.writing.one_value_of_rules.Goals as goal

pub returns : goal.returns
returns c = one_rule
