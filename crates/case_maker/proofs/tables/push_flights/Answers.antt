use Rattle.case_maker.proofs.PageSteps.{none, more, two, all}
use Rattle.case_maker.proofs.tables.push_flights.Goals as goal

pub loop-i-init : goal.loop-i-init
loop-i-init c = none _ _

pub loop-i-preserved : goal.loop-i-preserved
loop-i-preserved c = more _ _ c.loop-i.i c.loop-i.invariant c.in_ok-push_hub_flights.ensures

pub returns : goal.returns
returns c =
    two c.args.page.now _ _ c.in_ok-say.ensures
    (two _ _ _ c.in_ok-push_flight.ensures (two _ _ _ c.in_ok-push_flight-2.ensures
    (all _ _ c.args.size c.loop-i.i c.loop-i-test.false c.loop-i.auto.i-end c.loop-i.invariant)))
