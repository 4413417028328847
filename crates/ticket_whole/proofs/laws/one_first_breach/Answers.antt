use Rattle.ticket_whole.proofs.DemandNumbers.{one_first}
use Rattle.ticket_whole.proofs.laws.one_first_breach.Goals as goal

pub returns : goal.returns
returns c = λ t b q. one_first b q t
