use Rattle.flight_paths.proofs.Crossing.{heads_and_tails}
use Rattle.flight_paths.proofs.laws.heads_and_tails.Goals as goal

pub returns : goal.returns
returns c = heads_and_tails
