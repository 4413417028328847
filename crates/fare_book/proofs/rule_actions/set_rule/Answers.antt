use Rattle.std.proofs.Common.{Some, ap}
use Rattle.fare_book.proofs.Finding.{rule_set, set_grows}
use Rattle.fare_book.proofs.rule_actions.set_rule.Goals as goal

pub returns-clause-rules : goal.returns-clause-rules
returns-clause-rules c =
    rule_set c.args.rules.now.entries c.insert.new.self.entries c.args.key (Some c.in_ok-rule.rule) (Some c.args.rule.now) (ap Some c.in_ok-rule.ensures) c.in_ok-insert.ensures.updates.0

pub returns-clause-changed : goal.returns-clause-changed
returns-clause-changed c = set_grows c.args.changed.now.keys c.insert-2.new.self.keys c.args.key c.in_ok-insert-2.ensures.updates.0
