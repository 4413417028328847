use Rattle.std.proofs.Common.{refl, subst, arith}
use Rattle.component_table.proofs.HeadFacts.{IsBeside}
use Rattle.joint_paths.proofs.Ranged.{UpTo, up_each, up_first, up_next}
use Rattle.law_lemmas.proofs.Lists.{got_read}
use Rattle.component_table.proofs.crossing.past_bucket.Goals as goal

pub loop-at-init : goal.loop-at-init
loop-at-init c = record { past = omega arith; beside = up_first IsBeside c.args.heads.now c.args.from (λ h. (refl, refl)) }

pub loop-at-preserved : goal.loop-at-preserved
loop-at-preserved c =
    let hs = c.args.heads.now in
    record {
      past = let p = c.loop-at.invariant.past in omega (arith, p);
      beside = up_next IsBeside hs c.args.from c.loop-at.at _ _ (got_read hs c.args.from _ c.requires) (got_read hs c.loop-at.at _ c.loop-at-test.true) (let n = c.if-not-is_beside.false in (c.is_beside.ensures.carrier n, c.is_beside.ensures.first n)) c.loop-at.invariant.beside;
    }

pub returns-then-not-is_beside-clause-beside : goal.returns-then-not-is_beside-clause-beside
returns-then-not-is_beside-clause-beside c = λ one e. up_each IsBeside c.args.heads.now c.args.from c.loop-at.at c.loop-at.invariant.beside one e

pub returns-clause-beside : goal.returns-clause-beside
returns-clause-beside c = λ one e. up_each IsBeside c.args.heads.now c.args.from _ (subst (λ n. UpTo IsBeside c.args.heads.now c.args.from n) (let l = c.loop-at-test.false in let m = c.loop-at.auto.at-end in omega (arith, l, m)) c.loop-at.invariant.beside) one e
