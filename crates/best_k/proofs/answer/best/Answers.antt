use Rattle.std.proofs.Common.{◌≡◌, ◌⊎◌, length, inl, inr, arith}
use Rattle.std.proofs.lemmas.Bool.{cases_lt}
use Rattle.best_k.specs.Ranked.{ranked}
use Rattle.best_k.proofs.Tables.{count_here}
use Rattle.best_k.proofs.Found.{first_ranks_best}
use Rattle.best_k.proofs.answer.best.Goals as goal

pub returns : goal.returns
returns g c =
    let l = g.L.Lattice.shape c.args.lattice.now in
    let laws = g.met.L.Lattice.laws c.args.lattice.now in
    let found = c.in_ok-found.found in
    let n = count_here c.in_ok-table.table.items c.args.node c.index.result.now (omega (arith, c.in_ok-table.ensures.table.long)) c.index.ensures in
    let long = c.in_ok-found.ensures.length in
    let full : (length found ≡ c.args.k) ⊎ (length found ≡ length (ranked l c.args.node)) = elim c.in_ok-table.ensures.drawn [
      | inl le ↦ inl (omega (arith, long, c.min-wanted.ensures, c.len.ensures, n))
      | inr all ↦ elim (cases_lt c.len.result c.args.k) [
        | inl lt ↦ inr (omega (arith, long, c.min-wanted.ensures, c.len.ensures, n))
        | inr ge ↦ inl (omega (arith, long, c.min-wanted.ensures))
      ]
    ] in
    first_ranks_best l laws c.args.node c.args.k found c.requires c.in_ok-found.ensures.first (omega (arith, long, c.min-wanted.ensures)) full
