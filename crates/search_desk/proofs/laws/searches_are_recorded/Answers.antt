use Rattle.search_desk.proofs.Recorded.{refused, searched}
use Rattle.search_desk.proofs.laws.searches_are_recorded.Goals as goal

pub returns-clause-outcome : goal.returns-clause-outcome
returns-clause-outcome c w desk q budget between result own = searched w desk q budget between result own

pub returns-clause-refused : goal.returns-clause-refused
returns-clause-refused c w desk q budget between why own = refused w desk q budget between why own
