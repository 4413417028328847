-- The theorems of their own file.
use Rattle.residual_keys.proofs.RunsBest.{runs_best, best_tickets}
use Rattle.residual_keys.proofs.laws.best_runs.Goals as goal

pub returns-clause-best : goal.returns-clause-best
returns-clause-best c = runs_best

pub returns-clause-tickets : goal.returns-clause-tickets
returns-clause-tickets c = best_tickets
