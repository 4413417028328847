-- The theorems of their own files.
use Rattle.residual_keys.proofs.NothingLost.{run_ticket, ticket_run, moves_many}
use Rattle.std.proofs.Common.{[], arith}
use Rattle.residual_keys.proofs.OneNext.{same_completions}
use Rattle.residual_keys.proofs.OneTicket.{ticket_one}
use Rattle.residual_keys.proofs.Short.{root_run_short}
use Rattle.residual_keys.proofs.laws.nothing_lost.Goals as goal

pub returns-clause-runs : goal.returns-clause-runs
returns-clause-runs c = run_ticket

pub returns-clause-tickets : goal.returns-clause-tickets
returns-clause-tickets c = ticket_run

pub returns-clause-one : goal.returns-clause-one
returns-clause-one c = ticket_one

pub returns-clause-same : goal.returns-clause-same
returns-clause-same c = same_completions

pub returns-clause-few : goal.returns-clause-few
returns-clause-few c = λ b q t six law.
    let r = ticket_run b q t law in
    omega (arith, six, moves_many [] t.components, root_run_short b q _ r.0 r.1)
