use Rattle.std.proofs.Common.{◌<◌, length, subst, arith}
use Rattle.component_table.specs.declared.landed.Landing.{Landing}
use Rattle.component_table.specs.Landed.{AreAlike}
use Rattle.component_table.proofs.LandedFacts.{alike_self}
use Rattle.joint_paths.proofs.Ranged.{UpTo, up_each, up_first, up_next}
use Rattle.law_lemmas.proofs.EachOne.{each_at}
use Rattle.law_lemmas.proofs.Lists.{got_read}
use Rattle.component_table.proofs.landed.past_class.Goals as goal

pub loop-at-init : goal.loop-at-init
loop-at-init c = record { past = omega arith; alike = up_first (AreAlike c.args.paths.now) c.args.landings.now c.args.from (alike_self c.args.paths.now) }

pub are_alike-requires-clause-one : goal.are_alike-requires-clause-one
are_alike-requires-clause-one c = each_at (λ (l : Landing). l.path < length c.args.paths.now) c.args.landings.now c.args.from _ c.requires.paths c.requires.within

pub are_alike-requires-clause-other : goal.are_alike-requires-clause-other
are_alike-requires-clause-other c = each_at (λ (l : Landing). l.path < length c.args.paths.now) c.args.landings.now c.loop-at.at _ c.requires.paths c.loop-at-test.true

pub loop-at-preserved : goal.loop-at-preserved
loop-at-preserved c =
    let ls = c.args.landings.now in
    record {
      past = let p = c.loop-at.invariant.past in omega (arith, p);
      alike = up_next (AreAlike c.args.paths.now) ls c.args.from c.loop-at.at _ _ (got_read ls c.args.from _ c.requires.within) (got_read ls c.loop-at.at _ c.loop-at-test.true) (c.are_alike.ensures c.if-not-are_alike.false) c.loop-at.invariant.alike;
    }

pub returns-then-not-are_alike-clause-alike : goal.returns-then-not-are_alike-clause-alike
returns-then-not-are_alike-clause-alike c = λ one e. up_each (AreAlike c.args.paths.now) c.args.landings.now c.args.from c.loop-at.at c.loop-at.invariant.alike one e

pub returns-clause-alike : goal.returns-clause-alike
returns-clause-alike c = λ one e. up_each (AreAlike c.args.paths.now) c.args.landings.now c.args.from _ (subst (λ n. UpTo (AreAlike c.args.paths.now) c.args.landings.now c.args.from n) (let l = c.loop-at-test.false in let m = c.loop-at.auto.at-end in omega (arith, l, m)) c.loop-at.invariant.alike) one e
