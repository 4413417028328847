use Rattle.std.proofs.Common.{rules}
use Rattle.rule_text.proofs.RuleParts.{read_in_groups}
use Rattle.rule_text.proofs.reading.read_rule.Goals as goal

pub returns-in_err-check_members-clause-rule : goal.returns-in_err-check_members-clause-rule
returns-in_err-check_members-clause-rule c = read_in_groups _ _ (search rules)

pub returns-in_err-cat2-clause-rule : goal.returns-in_err-cat2-clause-rule
returns-in_err-cat2-clause-rule c = read_in_groups _ _ (search rules)

pub returns-in_err-cat6-clause-rule : goal.returns-in_err-cat6-clause-rule
returns-in_err-cat6-clause-rule c = read_in_groups _ _ (search rules)

pub returns-in_err-cat10-clause-rule : goal.returns-in_err-cat10-clause-rule
returns-in_err-cat10-clause-rule c = read_in_groups _ _ (search rules)

pub returns-clause-rule : goal.returns-clause-rule
returns-clause-rule c = read_in_groups _ _ (search rules)
