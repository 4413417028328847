use Rattle.serve_desks.proofs.Asks.{all_ask, all_of_desks}
use Rattle.serve_desks.proofs.workload.lines_fit.Goals as goal

pub returns-clause-desks : goal.returns-clause-desks
returns-clause-desks c = all_of_desks _ _ _ _ c.requires.lines

pub returns-clause-asks : goal.returns-clause-asks
returns-clause-asks c = all_ask _ _ _ _ c.requires.lines
