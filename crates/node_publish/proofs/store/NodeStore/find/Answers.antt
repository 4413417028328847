use Rattle.std.proofs.Common.{◌∙◌, arith}
use Rattle.fare_component.specs.Keys.{asked}
use Rattle.node_publish.proofs.Keeping.{keeps_trans, knows_here, no_room_stays, not_both, published_stays}
use Rattle.node_publish.proofs.store.NodeStore.find.Goals as goal

pub returns-then-is_for-clause-stays : goal.returns-then-is_for-clause-stays
returns-then-is_for-clause-stays c =
    published_stays c.args.pass.now c.read.new.pass (keeps_trans c.args.pass.now c.loop-j.pass c.read.new.pass c.loop-j.invariant.0 c.read.ensures.keeps)

pub returns-then-is_for-clause-no_room : goal.returns-then-is_for-clause-no_room
returns-then-is_for-clause-no_room c =
    let keeps = keeps_trans c.args.pass.now c.loop-j.pass c.read.new.pass c.loop-j.invariant.0 c.read.ensures.keeps in
    λ f. absurd (not_both c.read.new.pass (asked c.args.key.now) (no_room_stays c.args.pass.now c.read.new.pass keeps (asked c.args.key.now) f)
    (knows_here c.loop-j.pass c.read.new.pass (asked c.args.key.now) c.in-Some.node.now c.loop-j.j c.home-at.result c.args.self.now (c.loop-j.invariant.0.cells ∙ c.requires) c.in-Some.ensures c.home-at.ensures.value (omega arith) (c.is_for.ensures.0 c.if-is_for.true)))

pub returns-clause-stays : goal.returns-clause-stays
returns-clause-stays c = published_stays c.args.pass.now c.loop-j.pass c.loop-j.invariant.0
