use Rattle.std.proofs.Common.{◌*◌}
use Rattle.case_maker.proofs.PageSteps.{none, more, two, all}
use Rattle.law_lemmas.proofs.Options.{on_ok}
use Rattle.case_maker.proofs.filing.push_filing.Goals as goal

pub loop-j-init : goal.loop-j-init
loop-j-init c = none _ _

pub loop-j-preserved : goal.loop-j-preserved
loop-j-preserved c = more _ _ c.loop-j.j c.loop-j.invariant c.in_ok-push_way_fare.ensures

pub loop-i-init : goal.loop-i-init
loop-i-init c = none _ _

pub loop-i-preserved : goal.loop-i-preserved
loop-i-preserved c = more _ _ c.loop-i.i c.loop-i.invariant c.in_ok-push_hub_fares.ensures

pub returns : goal.returns
returns c =
    on_ok c.say-2.result _ _
    (λ last. two _ _ _ c.in_ok-say.ensures (two _ _ _ c.in_ok-say_all.ensures (two _ _ _
    (all _ _ (2 * c.args.size) c.loop-j.j c.loop-j-test.false c.loop-j.auto.j-end c.loop-j.invariant)
    (two _ _ _ c.in_ok-push_free_fare.ensures (two _ _ _ (all _ _ c.args.size c.loop-i.i c.loop-i-test.false c.loop-i.auto.i-end c.loop-i.invariant) last)))))
    c.say-2.ensures
