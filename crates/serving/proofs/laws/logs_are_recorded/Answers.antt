use Rattle.serving.proofs.CoreReplies.{all_recorded}
use Rattle.serving.proofs.laws.logs_are_recorded.Goals as goal

pub returns : goal.returns
returns c start work log run script = all_recorded start work log run script c.replies_are_recorded.ensures
