use Rattle.std.proofs.Common.{subst, arith}
use Rattle.joint_paths.specs.Ordered.{IsBeside}
use Rattle.joint_paths.proofs.InOrder.{beside_self}
use Rattle.joint_paths.proofs.Ranged.{UpTo, up_each, up_first, up_next}
use Rattle.law_lemmas.proofs.Lists.{got_read}
use Rattle.joint_paths.proofs.tail_classes.past_class.Goals as goal

pub loop-at-init : goal.loop-at-init
loop-at-init c = record { past = omega arith; beside = up_first IsBeside c.args.ordered.now c.args.from beside_self }

pub loop-at-preserved : goal.loop-at-preserved
loop-at-preserved c =
    let os = c.args.ordered.now in
    record {
      past = let p = c.loop-at.invariant.past in omega (arith, p);
      beside = up_next IsBeside os c.args.from c.loop-at.at _ _ (got_read os c.args.from _ c.requires) (got_read os c.loop-at.at _ c.loop-at-test.true) (c.is_beside.ensures.0 c.if-not-is_beside.false) c.loop-at.invariant.beside;
    }

pub returns-then-not-is_beside-clause-beside : goal.returns-then-not-is_beside-clause-beside
returns-then-not-is_beside-clause-beside c = λ one e. up_each IsBeside c.args.ordered.now c.args.from c.loop-at.at c.loop-at.invariant.beside one e

pub returns-clause-beside : goal.returns-clause-beside
returns-clause-beside c = λ one e. up_each IsBeside c.args.ordered.now c.args.from _ (subst (λ n. UpTo IsBeside c.args.ordered.now c.args.from n) (let l = c.loop-at-test.false in let m = c.loop-at.auto.at-end in omega (arith, l, m)) c.loop-at.invariant.beside) one e
