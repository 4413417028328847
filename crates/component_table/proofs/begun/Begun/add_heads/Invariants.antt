use Rattle.std.proofs.Common.{◌≡◌}
use Rattle.component_table.specs.Begun.{AddsHeads, IsKnown, StaysKnown}
use Rattle.fare_ends.specs.Markets.{AreMarkets}
use Rattle.fare_ends.specs.Masks.{AreMasks}
use Rattle.component_table.proofs.begun.Begun.add_heads.Given as goal

abbrev pub invariant-loop-number : goal.invariant-loop-number
invariant-loop-number l = record {
  markets : AreMarkets l.origin.case.now.book.now l.markets.kept.items;
  masks : AreMasks l.origin.case.now.book.now l.origin.case.now.request.now l.masks;
  known : IsKnown l.origin.case.now.book.now l.known;
  stays : StaysKnown l.initial.known l.known;
  found : l.self.found ≡ l.initial.self.found;
  heads : AddsHeads l.origin l.known.fares l.paths l.number l.self.landings.items l.initial.self.heads.items l.self.heads.items;
}
