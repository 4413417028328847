use Rattle.std.proofs.Common.{subst}
use Rattle.component_table.proofs.GroupFacts.{group_added, group_none, outline_live, own_group}
use Rattle.fare_ends.specs.Ends.{between}
use Rattle.fare_law.specs.Limits.{IsFlight}
use Rattle.fare_law.specs.Lists.{Each}
use Rattle.joint_paths.specs.Costs.{CostsLeast}
use Rattle.joint_paths.specs.Joins.{PathsOf}
use Rattle.component_table.proofs.crossing.add_group.Goals as goal

pub least_of-requires-clause-group : goal.least_of-requires-clause-group
least_of-requires-clause-group c = own_group c.args.joint.now c.args.class.now c.args.group.now c.requires.joint c.requires.tails c.requires.group c.limits.ensures

pub returns-in_default-clause-found : goal.returns-in_default-clause-found
returns-in_default-clause-found c =
    let r = c.requires.group.is.rule in
    let none = c.in_ok-price.ensures.least r.rule r.stands in
    let j = c.args.joint.now in
    let g = c.args.group.now in
    group_none j c.args.class.now g c.requires.joint c.requires.tails c.requires.group c.limits.ensures r.rule r.stands _ _
    (subst (λ least. CostsLeast r.rule (between j.fares.now.rungs.items g.from g.to) (PathsOf j j.tails.now) least) c.in_default.is none)

pub returns-in_err-outline-clause-outlines : goal.returns-in_err-outline-clause-outlines
returns-in_err-outline-clause-outlines c = c.find.ensures.ruled _ (outline_live c.args.joint.now c.args.class.now c.args.group.now c.requires.joint c.requires.tails c.requires.group c.limits.ensures c.get-rule.result.now c.get-rule.ensures c.outline_of-outline.result c.outline_of-outline.ensures) c.requires.outlines

pub returns-in_err-push-clause-outlines : goal.returns-in_err-push-clause-outlines
returns-in_err-push-clause-outlines c = c.find.ensures.ruled _ (outline_live c.args.joint.now c.args.class.now c.args.group.now c.requires.joint c.requires.tails c.requires.group c.limits.ensures c.get-rule.result.now c.get-rule.ensures c.outline_of-outline.result c.outline_of-outline.ensures) c.requires.outlines

pub returns-clause-outlines : goal.returns-clause-outlines
returns-clause-outlines c = c.find.ensures.ruled _ (outline_live c.args.joint.now c.args.class.now c.args.group.now c.requires.joint c.requires.tails c.requires.group c.limits.ensures c.get-rule.result.now c.get-rule.ensures c.outline_of-outline.result c.outline_of-outline.ensures) c.requires.outlines

pub returns-clause-found : goal.returns-clause-found
returns-clause-found c =
    let j = c.args.joint.now in
    let g = c.args.group.now in
    let flights = subst (Each IsFlight) c.flights-flights.ensures.flights c.flights-flights.ensures.limits in
    group_added c.args.joint.now c.args.class.now c.args.group.now c.requires.joint c.requires.tails c.requires.group c.limits.ensures c.get-rule.result.now c.get-rule.ensures _ _ _ _ _ _
    flights c.outline_of-outline.ensures c.in_ok-outline.ensures.found (returns-clause-outlines c)
    (subst (λ least. CostsLeast c.get-rule.result.now (between j.fares.now.rungs.items g.from g.to) (PathsOf j j.tails.now) least) c.in-Some.is (c.in_ok-price.ensures.least c.get-rule.result.now c.get-rule.ensures)) c.in_ok-push.ensures.items
