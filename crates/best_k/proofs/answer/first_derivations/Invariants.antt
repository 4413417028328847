use Rattle.std.proofs.Common.{◌≡◌, length}
use Rattle.best_k.specs.Ranked.{AreFirstDerivations}
use Rattle.best_k.proofs.answer.first_derivations.Given as goal

abbrev pub invariant-loop-rank : goal.invariant-loop-rank
invariant-loop-rank g l = record {
  long : length l.found ≡ l.rank;
  first : AreFirstDerivations (g.L.Lattice.shape l.lattice) l.node l.found;
}
