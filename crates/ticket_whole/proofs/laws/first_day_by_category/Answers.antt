use Rattle.ticket_whole.proofs.CategoryTold.{first_day_joint}
use Rattle.ticket_whole.proofs.laws.first_day_by_category.Goals as goal

pub returns : goal.returns
returns c = first_day_joint
