use Rattle.fare_ends.proofs.WayFacts.{FindsGroups}
use Rattle.fare_ends.proofs.ends.FareEnds.add_market.Given as goal

abbrev pub invariant-loop-at : goal.invariant-loop-at
invariant-loop-at l = FindsGroups l.case.book.now l.way l.market.groups l.fn.filed.from l.at l.initial.self l.initial.found.items l.self l.found.items
