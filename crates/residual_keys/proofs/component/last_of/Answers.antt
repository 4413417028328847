use Rattle.residual_keys.proofs.Components.{last_stands}
use Rattle.residual_keys.proofs.component.last_of.Goals as goal

pub returns-clause-last : goal.returns-clause-last
returns-clause-last c = last_stands c.args.flights.now _ c.requires
