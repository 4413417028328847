use Rattle.std.proofs.Common.{take}
use Rattle.component_table.specs.Networks.{IsNetwork}
use Rattle.component_table.specs.Steps.{BeginsBy}
use Rattle.component_table.proofs.LeastMerges.{Among, MergesThose}
use Rattle.component_table.proofs.networks.Network.begin_each.Given as goal

abbrev pub invariant-loop-number : goal.invariant-loop-number
invariant-loop-number l = record {
  network : IsNetwork l.case.book.now l.case.request.now l.self;
  merges : MergesThose l.case.book.now l.case.request.now l.at (Among (λ n _ ns. BeginsBy n ns) (take l.number-index l.numbers)) l.self.room.known.outlines.of.items l.self.room.merging.table.items;
}
