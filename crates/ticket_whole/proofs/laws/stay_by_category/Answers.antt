use Rattle.ticket_whole.proofs.CategoryTold.{stay_joint}
use Rattle.ticket_whole.proofs.laws.stay_by_category.Goals as goal

pub returns : goal.returns
returns c = stay_joint
