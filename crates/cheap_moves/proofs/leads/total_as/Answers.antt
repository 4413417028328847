use Rattle.std.proofs.Common.{subst, sym}
use Rattle.residual_keys.specs.Steps.{Leaves}
use Rattle.cheap_moves.proofs.leads.total_as.Goals as goal

pub returns-in_err-next : goal.returns-in_err-next
returns-in_err-next g c = λ next rest l e. absurd (c.in_err-next.ensures.none next (subst (λ p. Leaves c.args.search.now.residual.now c.args.entry.now.outline.after p c.args.role c.args.slot next) (sym c.requires.facts) l))
