use Rattle.std.proofs.Common.{take}
use Rattle.fare_ends.specs.Ends.{AreFareEnds, KnowsMore}
use Rattle.fare_ends.specs.Markets.{AreMarkets}
use Rattle.joint_paths.specs.JoinEnds.{AddsJoins}
use Rattle.joint_paths.proofs.join_ends.add_ends.Given as goal

abbrev pub invariant-loop-end : goal.invariant-loop-end
invariant-loop-end l = record {
  fares : AreFareEnds l.case.book.now l.fares;
  markets : AreMarkets l.case.book.now l.markets.kept.items;
  knows : KnowsMore l.initial.fares l.fares;
  added : AddsJoins l.case.book.now l.fares l.key (take l.end-index l.ends) l.initial.found.items l.found.items;
}
