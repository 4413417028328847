use Rattle.run_core.proofs.KeptKeys.{each_kept_once}
use Rattle.run_core.proofs.laws.kept_once.Goals as goal

pub returns : goal.returns
returns c = each_kept_once
