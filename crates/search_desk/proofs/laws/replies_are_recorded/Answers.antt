use Rattle.search_desk.proofs.Recorded.{replied}
use Rattle.search_desk.proofs.laws.replies_are_recorded.Goals as goal

pub returns : goal.returns
returns c = replied
