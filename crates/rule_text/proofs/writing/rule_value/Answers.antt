use Rattle.std.proofs.Common.{subst, sym}
use Rattle.serde_json.proofs.Views.{view-Object}
use Rattle.rule_text.specs.Again.{Spells}
use Rattle.rule_text.specs.Rules.{rule_of}
use Rattle.rule_text.proofs.writing.rule_value.Goals as goal

pub returns-clause-written : goal.returns-clause-written
returns-clause-written c = record { members = _; rule_is = c.in_ok-rule_members.ensures.written; written = view-Object c.in_ok-rule_members.field-0 }

pub returns-clause-again : goal.returns-clause-again
returns-clause-again c = subst (Spells 4 rule_of c.args.rule.now) (sym (view-Object c.in_ok-rule_members.field-0)) c.in_ok-rule_members.ensures.again
