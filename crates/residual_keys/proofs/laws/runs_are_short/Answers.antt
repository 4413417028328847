-- The theorems of their own file.
use Rattle.std.proofs.Common.{arith}
use Rattle.residual_keys.proofs.Short.{flies_few, move_goes_on, run_short, root_run_short}
use Rattle.residual_keys.proofs.Fitting.{reached_fits}
use Rattle.residual_keys.proofs.laws.runs_are_short.Goals as goal

pub returns-clause-flights : goal.returns-clause-flights
returns-clause-flights c = flies_few

pub returns-clause-raised : goal.returns-clause-raised
returns-clause-raised c = move_goes_on

pub returns-clause-runs : goal.returns-clause-runs
returns-clause-runs c = run_short

pub returns-clause-root : goal.returns-clause-root
returns-clause-root c = root_run_short

pub returns-clause-six : goal.returns-clause-six
returns-clause-six c = λ b q ms price few run. omega (arith, few, root_run_short b q ms price run)

pub returns-clause-fits : goal.returns-clause-fits
returns-clause-fits c = reached_fits
