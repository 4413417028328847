use Rattle.std.proofs.Common.{◌∙◌, ap, sym, length, arith}
use Rattle.std.proofs.lemmas.Bool.{false≢true}
use Rattle.node_publish.specs.Homes.{home}
use Rattle.node_publish.proofs.Keeping.{keeps_trans, knows_here, no_room_stays, not_both, published_stays, taken_more}
use Rattle.node_publish.proofs.store.NodeStore.keep.Goals as goal

pub returns-in_err-found-clause-stays : goal.returns-in_err-found-clause-stays
returns-in_err-found-clause-stays c =
    published_stays c.args.pass.now c.settle.new.pass (keeps_trans c.args.pass.now c.loop-j.pass c.settle.new.pass c.loop-j.invariant.0 c.in_err-found.ensures.err)

pub returns-then-is_for-clause-stays : goal.returns-then-is_for-clause-stays
returns-then-is_for-clause-stays c =
    published_stays c.args.pass.now c.settle.new.pass (keeps_trans c.args.pass.now c.loop-j.pass c.settle.new.pass c.loop-j.invariant.0 c.in_ok-found.ensures.ok.keeps)

pub returns-then-is_for-clause-no_room : goal.returns-then-is_for-clause-no_room
returns-then-is_for-clause-no_room c =
    let a = c.args.node.now in
    let keeps = keeps_trans c.args.pass.now c.loop-j.pass c.settle.new.pass c.loop-j.invariant.0 c.in_ok-found.ensures.ok.keeps in
    λ f _. not_both c.settle.new.pass a (no_room_stays c.args.pass.now c.settle.new.pass keeps a f)
    (knows_here c.loop-j.pass c.settle.new.pass a c.in_ok-found.found.now c.loop-j.j c.home-at.result c.args.self.now (c.loop-j.invariant.0.cells ∙ c.requires) c.in_ok-found.ensures.ok
    (c.home-at.ensures.value ∙ ap (λ k. home (length c.args.self.now) k c.loop-j.j) c.node.view_is) (omega arith) (c.is_for.ensures.0 c.if-is_for.true ∙ c.node.view_is))

pub loop-j-preserved : goal.loop-j-preserved
loop-j-preserved c = (
  keeps_trans c.args.pass.now c.loop-j.pass c.settle.new.pass c.loop-j.invariant.0 c.in_ok-found.ensures.ok.keeps,
  taken_more c.loop-j.pass c.settle.new.pass c.args.node.now c.in_ok-found.found.now c.loop-j.j c.home-at.result c.args.self.now (c.loop-j.invariant.0.cells ∙ c.requires) c.loop-j.invariant.1 c.in_ok-found.ensures.ok
      (c.home-at.ensures.value ∙ ap (λ k. home (length c.args.self.now) k c.loop-j.j) c.node.view_is)
      (λ e. false≢true (sym c.if-is_for.false ∙ c.is_for.ensures.1 (e ∙ sym c.node.view_is))),
)

pub returns-clause-stays : goal.returns-clause-stays
returns-clause-stays c = published_stays c.args.pass.now c.loop-j.pass c.loop-j.invariant.0
