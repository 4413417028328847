use Rattle.std.proofs.Common.{◌≡◌, ◌+◌, sym, subst, arith}
use Rattle.best_k.specs.Drawing.{IsTableOf, IsProgress}
use Rattle.best_k.proofs.Tables.{table_pushed}
use Rattle.best_k.proofs.fresh.least_ways.Goals as goal

pub loop-below-preserved : goal.loop-below-preserved
loop-below-preserved g c =
    let l = g.L.Lattice.shape c.args.lattice.now in
    let laws = g.met.L.Lattice.laws c.args.lattice.now in
    let new = subst (λ z. IsProgress l z c.loop-below.below c.in_ok-fresh.fresh) c.as_slice.ensures.value c.in_ok-fresh.ensures in
    subst (λ z. IsTableOf l z (c.loop-below.below + 1)) (sym c.in_ok-push.ensures.items) (table_pushed l laws c.loop-below.table.items c.loop-below.below c.in_ok-fresh.fresh (omega (arith, c.requires, c.loop-below-test.true)) c.loop-below.invariant new)

pub returns : goal.returns
returns g c =
    let l = g.L.Lattice.shape c.args.lattice.now in
    let laws = g.met.L.Lattice.laws c.args.lattice.now in
    let e : c.loop-below.below ≡ c.args.node = omega (arith, c.loop-below-test.false, c.loop-below.auto.below-end) in
    let new = subst (λ z. IsProgress l z c.args.node c.in_ok-fresh-2.fresh) c.as_slice-2.ensures.value c.in_ok-fresh-2.ensures in
    subst (λ z. IsTableOf l z (c.args.node + 1)) (sym c.in_ok-push-2.ensures.items) (table_pushed l laws c.loop-below.table.items c.args.node c.in_ok-fresh-2.fresh c.requires (subst (λ z. IsTableOf l c.loop-below.table.items z) e c.loop-below.invariant) new)
