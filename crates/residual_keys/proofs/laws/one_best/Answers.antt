-- The theorems of their own file, from the laws of codes and of their order.
use Rattle.residual_keys.proofs.OneBest.{cheaper_never, cheaper_trans, tickets_total, best_runs_one, best_tickets_one}
use Rattle.residual_keys.proofs.laws.one_best.Goals as goal

pub returns-clause-never : goal.returns-clause-never
returns-clause-never c = cheaper_never c.order_laws.ensures.before_never

pub returns-clause-further : goal.returns-clause-further
returns-clause-further c = cheaper_trans c.order_laws.ensures.before_trans

pub returns-clause-total : goal.returns-clause-total
returns-clause-total c = tickets_total c.order_laws.ensures.before_total c.codes_tell.ensures.same

pub returns-clause-runs : goal.returns-clause-runs
returns-clause-runs c = λ b q keys. best_runs_one c.order_laws.ensures.before_total c.codes_tell.ensures.same b q keys c.order_laws.ensures.before_never c.order_laws.ensures.before_trans

pub returns-clause-tickets : goal.returns-clause-tickets
returns-clause-tickets c = λ b q keys. best_tickets_one c.order_laws.ensures.before_total c.codes_tell.ensures.same b q keys c.order_laws.ensures.before_never c.order_laws.ensures.before_trans
