use Rattle.std.proofs.Common.{◌≡◌, [], take}
use Rattle.component_table.specs.Networks.{IsNetwork}
use Rattle.component_table.proofs.HeadsGathered.{GathersThose}
use Rattle.component_table.proofs.LeastMerges.{Among, MergesThose}
use Rattle.component_table.specs.Begun.{HeadPaths}
use Rattle.fare_ends.specs.Begins.{narrowed}
use Rattle.component_table.proofs.networks.Network.begin_all.Given as goal

abbrev pub invariant-loop-number : goal.invariant-loop-number
invariant-loop-number l = record {
  network : IsNetwork l.case.book.now l.case.request.now l.self;
  found : l.self.room.begun.found.items ≡ [];
  gathers : GathersThose l.case.book.now l.case.request.now l.at (take l.number-index l.numbers) l.self.room.begun.heads.items;
  merges : MergesThose l.case.book.now l.case.request.now l.at (Among (λ n. HeadPaths l.case.book.now l.case.request.now (narrowed l.at n)) (take l.number-index l.numbers)) l.self.room.known.outlines.of.items l.self.room.merging.table.items;
}
