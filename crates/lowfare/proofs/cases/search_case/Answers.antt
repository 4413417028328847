use Rattle.std.proofs.Common.{ℕ, List, subst}
use Rattle.whole_case.specs.Cases.{search_case}
use Rattle.whole_case.specs.Stages.{Reads}
use Rattle.lowfare.proofs.cases.search_case.Goals as goal

pub returns : goal.returns
returns c = subst (λ (bytes : List ℕ). Reads c.load_search_case.result (search_case c.args.best c.args.at bytes)) c.as_slice.ensures c.load_search_case.ensures
