use Rattle.std.proofs.Common.{◌∙◌}
use Rattle.flight_paths.proofs.Wanting.{last_number}
use Rattle.flight_paths.proofs.ends.ends_wanted.Goals as goal

pub returns-in-len1-up : goal.returns-in-len1-up
returns-in-len1-up g c = c.is_wanted.ensures ∙ last_number c.args.flights.now (g.E.Ends.wanted c.args.ends.now) c.args.numbers.now _ c.in-len1-up.len_at_least
