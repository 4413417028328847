use Rattle.search_core.proofs.Causes.{caused, searchable}
use Rattle.search_core.proofs.searching.searched.Goals as goal

pub returns-clause-fits : goal.returns-clause-fits
returns-clause-fits g c = searchable c.args.steps.now.case.book.now c.args.steps.now.case.request.now c.args.budget c.requires.right c.in_ok-graph.ensures.fits

pub returns-in_err-graph-clause-cause : goal.returns-in_err-graph-clause-cause
returns-in_err-graph-clause-cause g c =
    caused c.args.steps.now.case.book.now c.args.steps.now.case.request.now c.args.budget c.requires.right c.from_residual.result c.in_err-graph.field-0.0 c.from_residual.ensures
    c.in_err-graph.ensures.large
