use Rattle.search_steps.proofs.Kept.{keeps_then}
use Rattle.search_steps.proofs.nearest.least_by.Goals as goal

pub returns-clause-stays : goal.returns-clause-stays
returns-clause-stays g c = keeps_then c.args.tables.now.kept.items c.leads_by.new.tables.kept.items c.least_over.new.tables.kept.items c.leads_by.ensures.stays c.least_over.ensures.kept
