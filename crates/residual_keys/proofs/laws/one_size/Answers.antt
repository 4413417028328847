use Rattle.residual_keys.proofs.Sizes.{more_reached, one_size}
use Rattle.residual_keys.proofs.laws.one_size.Goals as goal

pub returns-clause-one : goal.returns-clause-one
returns-clause-one c = one_size

pub returns-clause-more : goal.returns-clause-more
returns-clause-more c = more_reached
