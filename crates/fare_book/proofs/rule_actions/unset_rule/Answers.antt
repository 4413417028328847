use Rattle.std.proofs.Common.{None, refl}
use Rattle.fare_book.proofs.Finding.{rule_set, set_grows}
use Rattle.fare_book.proofs.rule_actions.unset_rule.Goals as goal

pub returns-clause-rules : goal.returns-clause-rules
returns-clause-rules c = rule_set c.args.rules.now.entries c.remove.new.self.entries c.args.key None None refl c.remove.ensures.updates.0

pub returns-clause-changed : goal.returns-clause-changed
returns-clause-changed c = set_grows c.args.changed.now.keys c.insert.new.self.keys c.args.key c.in_ok-insert.ensures.updates.0
