use Rattle.std.proofs.Common.{unwrap_or, ap, ◌∙◌}
use Rattle.fare_book.proofs.Finding.{rule_found}
use Rattle.fare_book.proofs.uses.uses_of.Goals as goal

pub returns-clause-value : goal.returns-clause-value
returns-clause-value c = c.unwrap_or.ensures ∙ ap (λ o. unwrap_or o 0) (c.copied.ensures ∙ c.get.ensures.value ∙ rule_found c.args.uses.now.entries c.args.rule)
