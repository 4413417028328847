use Rattle.std.proofs.Common.{◌∙◌, ap, sym}
use Rattle.residual_table.specs.Keys.{residual_at}
use Rattle.residual_table.proofs.KeyFacts.{residual_is}
use Rattle.search_steps.specs.Numbers.{Numbered}
use Rattle.search_steps.proofs.numbered_case.NumberedCase.residual.Goals as goal

pub returns-clause-state : goal.returns-clause-state
returns-clause-state c =
    let k = c.args.key.now in
    sym (ap (λ (n : Numbered). residual_at n.numbers k) (sym c.self.view_is) ∙ residual_is c.self.inside.lists.numbers k c.residual-residual.result c.residual-residual.ensures)
