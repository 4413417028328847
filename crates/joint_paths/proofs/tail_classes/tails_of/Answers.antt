use Rattle.std.proofs.Common.{◌++◌, ◌∷◌, [], get_or, map, ap, ◌∙◌}
use Rattle.std.proofs.lemmas.List.{take_all}
use Rattle.joint_paths.proofs.InOrder.{no_tail, tail_of}
use Rattle.joint_paths.proofs.Ranged.{mapped_next}
use Rattle.joint_paths.proofs.tail_classes.tails_of.Goals as goal

pub loop-one-preserved : goal.loop-one-preserved
loop-one-preserved c =
    let os = c.args.ordered.now in
    let i = c.loop-one.one-index in
    c.in_ok-push.ensures.items ∙ ap (λ xs. xs ++ tail_of (get_or os i no_tail) ∷ []) c.loop-one.invariant ∙ mapped_next tail_of os i no_tail c.loop-one-test.true

pub returns : goal.returns
returns c = c.loop-one.invariant ∙ ap (map tail_of) (take_all c.loop-one.one-index c.args.ordered.now c.loop-one-test.false)
