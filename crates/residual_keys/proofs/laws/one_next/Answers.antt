-- The theorems of their own file.
use Rattle.residual_keys.proofs.OneNext.{moves_one, leads_to_one, run_leads, run_has_keys}
use Rattle.residual_keys.proofs.laws.one_next.Goals as goal

pub returns-clause-one : goal.returns-clause-one
returns-clause-one c = moves_one

pub returns-clause-leads : goal.returns-clause-leads
returns-clause-leads c = leads_to_one

pub returns-clause-further : goal.returns-clause-further
returns-clause-further c = run_leads

pub returns-clause-keys : goal.returns-clause-keys
returns-clause-keys c = run_has_keys
