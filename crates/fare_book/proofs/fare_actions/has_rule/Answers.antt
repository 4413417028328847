use Rattle.std.proofs.Common.{refl}
use Rattle.fare_book.proofs.RuleKeeping.{known_rule, rule_zero}
use Rattle.fare_book.proofs.fare_actions.has_rule.Goals as goal

pub returns-then-rule-eq0 : goal.returns-then-rule-eq0
returns-then-rule-eq0 c = λ b rules. (λ _. rule_zero b c.args.rule.carrier c.args.rule.number c.if-rule-eq0.true, λ _. refl)

pub returns : goal.returns
returns c = λ b rules. known_rule b c.args.rules.now.entries c.args.rule c.contains_key.result c.contains_key.ensures c.if-rule-eq0.false rules
