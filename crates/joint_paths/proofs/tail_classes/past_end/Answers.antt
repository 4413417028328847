use Rattle.std.proofs.Common.{refl, subst, arith}
use Rattle.joint_paths.proofs.InOrder.{EndsWithIt}
use Rattle.joint_paths.proofs.Ranged.{UpTo, up_each, up_first, up_next}
use Rattle.law_lemmas.proofs.Lists.{got_read}
use Rattle.joint_paths.proofs.tail_classes.past_end.Goals as goal

pub loop-at-init : goal.loop-at-init
loop-at-init c = record { past = omega arith; beside = up_first EndsWithIt c.args.classes.now c.args.from (λ x. refl) }

pub loop-at-preserved : goal.loop-at-preserved
loop-at-preserved c =
    let os = c.args.classes.now in
    record {
      past = let p = c.loop-at.invariant.past in omega (arith, p);
      beside = up_next EndsWithIt os c.args.from c.loop-at.at _ _ (got_read os c.args.from _ c.requires) (got_read os c.loop-at.at _ c.loop-at-test.true) (c.is.ensures.0 c.if-not-is.false) c.loop-at.invariant.beside;
    }

pub returns-then-not-is-clause-beside : goal.returns-then-not-is-clause-beside
returns-then-not-is-clause-beside c = λ one e. up_each EndsWithIt c.args.classes.now c.args.from c.loop-at.at c.loop-at.invariant.beside one e

pub returns-clause-beside : goal.returns-clause-beside
returns-clause-beside c = λ one e. up_each EndsWithIt c.args.classes.now c.args.from _ (subst (λ n. UpTo EndsWithIt c.args.classes.now c.args.from n) (let l = c.loop-at-test.false in let m = c.loop-at.auto.at-end in omega (arith, l, m)) c.loop-at.invariant.beside) one e
