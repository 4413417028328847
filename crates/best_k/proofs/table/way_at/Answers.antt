use Rattle.std.proofs.Common.{refl}
use Rattle.best_k.proofs.Measures.{way_measured}
use Rattle.best_k.proofs.table.way_at.Goals as goal

pub returns-in-Some-clause-way : goal.returns-in-Some-clause-way
returns-in-Some-clause-way g c = (refl, refl, refl, way_measured (g.L.Lattice.shape c.args.lattice.now) (g.met.L.Lattice.laws c.args.lattice.now) c.args.node _ c.requires.node c.requires.at c.in-Some.ensures.measure)
