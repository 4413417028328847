use Rattle.std.proofs.Common.{None, take, subst, sym, ◌∙◌, arith}
use Rattle.std.proofs.lemmas.List.{take_all}
use Rattle.component_table.specs.Landed.{IsLandedOf}
use Rattle.component_table.proofs.SoughtFacts.{landings_next, landings_stop}
use Rattle.joint_paths.specs.Costs.{GoesDown}
use Rattle.joint_paths.proofs.CostFacts.{least_down, not_less}
use Rattle.law_lemmas.proofs.Lists.{front_is, get_is}
use Rattle.law_lemmas.proofs.Tests.{not_so}
use Rattle.outline_tables.proofs.Putting.{got_some}
use Rattle.component_table.proofs.landed.least_over.Goals as goal

pub returns-then-not-is_less-clause-least : goal.returns-then-not-is_less-clause-least
returns-then-not-is_less-clause-least c =
    let o = c.args.origin.now in
    let k = c.args.class.now in
    let s = c.args.sought.now in
    landings_stop o k s.rule.now s.rungs.now (IsLandedOf o k.paths.now (take c.loop-at.at k.landings.now)) s.floor c.loop-at.least c.requires.sought.floor
    (not_less c.loop-at.least s.floor (λ h. not_so c.is_less.result c.if-not-is_less.true c.is_less.ensures.1 h)) c.loop-at.invariant.down

pub with_landing-least-requires-clause-place : goal.with_landing-least-requires-clause-place
with_landing-least-requires-clause-place c = got_some c.args.class.now.landings.now c.loop-at.at c.loop-at-test.true

pub loop-at-preserved : goal.loop-at-preserved
loop-at-preserved c =
    let o = c.args.origin.now in
    let k = c.args.class.now in
    let s = c.args.sought.now in
    let ls = k.landings.now in
    let at = c.loop-at.at in
    let w = c.with_landing-least.ensures in
    let got = got_some ls at c.loop-at-test.true in
    record {
      said = w.said;
      rule = w.rule ∙ c.loop-at.invariant.rule;
      free = λ e. w.free e ∙ c.loop-at.invariant.free e;
      down = landings_next o k.paths.now ls s.rule.now s.rungs.now (IsLandedOf o k.paths.now ls) at got.0 None c.loop-at.least c.with_landing-least.result
          (front_is ls at got.0 c.loop-at-test.true (sym (get_is ls at got.0 got.0 got.1))) c.loop-at.invariant.down (w.least got.0 got.1);
    }

pub returns-clause-least : goal.returns-clause-least
returns-clause-least c =
    let o = c.args.origin.now in
    let k = c.args.class.now in
    let s = c.args.sought.now in
    let ls = k.landings.now in
    least_down s.rule.now s.rungs.now (IsLandedOf o k.paths.now ls) c.loop-at.least (subst (λ xs. GoesDown s.rule.now s.rungs.now (IsLandedOf o k.paths.now ls) (IsLandedOf o k.paths.now xs) None c.loop-at.least)
    (take_all c.loop-at.at ls (let l = c.loop-at-test.false in let m = c.loop-at.auto.at-end in omega (arith, l, m))) c.loop-at.invariant.down)
