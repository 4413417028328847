use Rattle.std.proofs.Common.{sym, ◌∙◌}
use Rattle.fare_law.proofs.SameRules.{rules_tell}
use Rattle.fare_law.proofs.rules.Rule.is.Goals as goal

pub returns : goal.returns
returns c = let d = rules_tell c.args.self.now c.args.other.now in let h = c.eq.ensures in (λ t. d.0 (sym h ∙ t), λ e. h ∙ d.1 e)
