use Rattle.std.proofs.Common.{◌+◌}
use Rattle.best_k.specs.Drawing.{IsTableOf, AreDrawn}
use Rattle.best_k.proofs.answer.drawn_table.Given as goal

abbrev pub invariant-loop-rank : goal.invariant-loop-rank
invariant-loop-rank g l = record {
  table : IsTableOf (g.L.Lattice.shape l.lattice) l.table.items (l.node + 1);
  drawn : AreDrawn (g.L.Lattice.shape l.lattice) l.table.items l.node l.rank;
}
