use Rattle.lowfare.proofs.ServeMakes.{asks_allowed}
use Rattle.lowfare.proofs.service.served_case.Goals as goal

-- right requests are right asks
pub served-requires-clause-asks : goal.served-requires-clause-asks
served-requires-clause-asks g c κs within =
    asks_allowed c.args.found.book c.args.budget c.args.found.requests c.in_ok-work.work.asks c.in_ok-work.ensures.work.asks_same c.requires.asks
