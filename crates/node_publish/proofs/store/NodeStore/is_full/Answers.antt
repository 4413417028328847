use Rattle.std.proofs.Common.{◌∙◌, ◌≤◌, sym, subst, length, List, ℕ, arith}
use Rattle.node_publish.specs.Homes.{homes}
use Rattle.node_publish.proofs.Filling.{all_published, set_all, set_more}
use Rattle.node_publish.proofs.Keeping.{keeps_trans, published_stays}
use Rattle.node_publish.proofs.store.NodeStore.is_full.Goals as goal

pub returns-in_default-clause-stays : goal.returns-in_default-clause-stays
returns-in_default-clause-stays c = published_stays c.args.pass.now c.read.new.pass (keeps_trans c.args.pass.now c.loop-j.pass c.read.new.pass c.loop-j.invariant.0 c.in_default.ensures.keeps)

pub loop-j-preserved : goal.loop-j-preserved
loop-j-preserved c = (
  keeps_trans c.args.pass.now c.loop-j.pass c.read.new.pass c.loop-j.invariant.0 c.in-Some.ensures.keeps,
  set_more c.loop-j.pass c.read.new.pass c.args.home c.loop-j.j c.cell-at.result c.in-Some._node.now c.args.self.now (c.loop-j.invariant.0.cells ∙ c.requires.own) c.loop-j.invariant.1 c.in-Some.ensures c.cell-at.ensures.value,
)

pub returns-clause-stays : goal.returns-clause-stays
returns-clause-stays c = published_stays c.args.pass.now c.loop-j.pass c.loop-j.invariant.0

pub returns-clause-full : goal.returns-clause-full
returns-clause-full c = λ t a e.
    let own = c.loop-j.invariant.0.cells ∙ c.requires.own in
    all_published c.loop-j.pass a (set_all c.loop-j.pass c.args.home a e c.loop-j.j (homes (length c.loop-j.pass.cells)) (subst (λ (cs : List ℕ). homes (length cs) ≤ c.loop-j.j) (sym own) (omega (arith, c.loop-j-test.false, c.homes-j-end.ensures))) c.loop-j.invariant.1)
