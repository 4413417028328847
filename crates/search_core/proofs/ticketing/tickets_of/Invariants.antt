use Rattle.std.proofs.Common.{take}
use Rattle.fare_law.specs.Lists.{Matched}
use Rattle.search_core.specs.Answers.{IsPriced}
use Rattle.search_core.proofs.ticketing.tickets_of.Given as goal

abbrev pub invariant-loop-run : goal.invariant-loop-run
invariant-loop-run l = Matched (IsPriced l.book l.request) (take l.run-index l.runs) l.tickets
