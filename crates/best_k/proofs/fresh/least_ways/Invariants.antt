use Rattle.best_k.specs.Drawing.{IsTableOf}
use Rattle.best_k.proofs.fresh.least_ways.Given as goal

abbrev pub invariant-loop-below : goal.invariant-loop-below
invariant-loop-below g l = IsTableOf (g.L.Lattice.shape l.lattice) l.table.items l.below
