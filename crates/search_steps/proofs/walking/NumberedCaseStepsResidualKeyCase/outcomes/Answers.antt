use Rattle.std.proofs.Common.{subst}
use Rattle.graph_walk.specs.Steps.{AreOutcomes, outcomes_of}
use Rattle.residual_table.specs.Keys.{residual_at}
use Rattle.search_steps.specs.Leads.{leads_of}
use Rattle.search_steps.proofs.RowsByNumber.{keeps_states}
use Rattle.search_steps.proofs.walking.NumberedCaseStepsResidualKeyCase.outcomes.Goals as goal

pub returns-in-Ok-clause-outcomes : goal.returns-in-Ok-clause-outcomes
returns-in-Ok-clause-outcomes c =
    let x = residual_at c.args.self.now.numbers c.args.key in
    let os = outcomes_of (residual_at c.outcomes-found.new.self.numbers) c.in-Ok.outcomes.items in
    subst (λ q. AreOutcomes (leads_of c.args._context.now.book.now q) x os) c.requires.fits.2 (subst (λ b. AreOutcomes (leads_of b c.args.self.now.request.now) x os) c.requires.fits.1 c.in-Ok.ensures.outcomes)

pub returns-in-Ok-clause-keeps : goal.returns-in-Ok-clause-keeps
returns-in-Ok-clause-keeps c = keeps_states c.args.self.now.numbers c.outcomes-found.new.self.numbers c.outcomes-found.ensures.grows
