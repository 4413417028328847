use Rattle.run_core.proofs.Rising.{never_fall}
use Rattle.run_core.proofs.laws.versions_never_fall.Goals as goal

pub returns : goal.returns
returns c = never_fall
