use Rattle.rule_text.proofs.RuleLemmas.{names_aside}
use Rattle.rule_text.proofs.writing.names_stand_aside.Goals as goal

pub returns : goal.returns
returns c = names_aside
