use Rattle.std.proofs.Common.{subst}
use Rattle.component_table.specs.Landed.{IsLandedOf}
use Rattle.component_table.proofs.LandedFacts.{group_added, group_live, group_none, landed_group}
use Rattle.fare_ends.specs.Ends.{between}
use Rattle.fare_law.specs.Limits.{IsFlight}
use Rattle.fare_law.specs.Lists.{Each}
use Rattle.joint_paths.specs.Costs.{CostsLeast}
use Rattle.component_table.proofs.landed.add_group.Goals as goal

pub least_of-requires-clause-group : goal.least_of-requires-clause-group
least_of-requires-clause-group c = landed_group c.args.origin.now c.args.known.now.fares c.args.class.now c.args.group.now c.requires.known.fares.rules c.limits.ensures c.requires.class c.requires.group

pub returns-in_default-clause-found : goal.returns-in_default-clause-found
returns-in_default-clause-found c =
    let o = c.args.origin.now in
    let k = c.args.class.now in
    let g = c.args.group.now in
    let fares = c.args.known.now.fares in
    let r = (c.requires.group c.requires.class.first c.requires.class.stands).is.rule in
    group_none o c.requires.origin fares c.requires.known.fares.rules c.limits.ensures k c.requires.class g c.requires.group r.rule r.stands
    (subst (CostsLeast r.rule (between fares.rungs.items g.from g.to) (IsLandedOf o k.paths.now k.landings.now)) c.in_default.is (c.in_ok-price.ensures.least r.rule r.stands)) c.args.known.now.outlines.of.items c.args.found.now.items

pub get-rule-requires : goal.get-rule-requires
get-rule-requires c = let r = (c.requires.group c.requires.class.first c.requires.class.stands).is.rule in (r.rule, r.stands)

pub returns-in_err-outline-clause-known : goal.returns-in_err-outline-clause-known
returns-in_err-outline-clause-known c =
    let o = c.args.origin.now in
    let x = c.outline_of-outline in
    record {
      fares = c.requires.known.fares;
      outlines = c.find.ensures.ruled o.case.now.book.now (group_live o c.args.known.now.fares c.args.class.now c.args.group.now c.requires.known.fares.rules c.requires.class c.requires.group x.result x.ensures.carrier x.ensures.number c.get-rule.result.now c.get-rule.ensures) c.requires.known.outlines;
    }

pub returns-in_err-push-clause-known : goal.returns-in_err-push-clause-known
returns-in_err-push-clause-known c =
    let o = c.args.origin.now in
    let x = c.outline_of-outline in
    record {
      fares = c.requires.known.fares;
      outlines = c.find.ensures.ruled o.case.now.book.now (group_live o c.args.known.now.fares c.args.class.now c.args.group.now c.requires.known.fares.rules c.requires.class c.requires.group x.result x.ensures.carrier x.ensures.number c.get-rule.result.now c.get-rule.ensures) c.requires.known.outlines;
    }

pub returns-clause-known : goal.returns-clause-known
returns-clause-known c =
    let o = c.args.origin.now in
    let x = c.outline_of-outline in
    record {
      fares = c.requires.known.fares;
      outlines = c.find.ensures.ruled o.case.now.book.now (group_live o c.args.known.now.fares c.args.class.now c.args.group.now c.requires.known.fares.rules c.requires.class c.requires.group x.result x.ensures.carrier x.ensures.number c.get-rule.result.now c.get-rule.ensures) c.requires.known.outlines;
    }

pub returns-clause-found : goal.returns-clause-found
returns-clause-found c =
    let o = c.args.origin.now in
    let k = c.args.class.now in
    let g = c.args.group.now in
    let fares = c.args.known.now.fares in
    let x = c.outline_of-outline in
    let rule = c.get-rule.result.now in
    let ruled = c.find.ensures.ruled o.case.now.book.now (group_live o fares k g c.requires.known.fares.rules c.requires.class c.requires.group x.result x.ensures.carrier x.ensures.number rule c.get-rule.ensures) c.requires.known.outlines in
    group_added o c.requires.origin fares c.requires.known.fares.rules c.limits.ensures k c.requires.class g c.requires.group rule c.get-rule.ensures c.in-Some.price
    (subst (CostsLeast rule (between fares.rungs.items g.from g.to) (IsLandedOf o k.paths.now k.landings.now)) c.in-Some.is (c.in_ok-price.ensures.least rule c.get-rule.ensures))
    x.result x.ensures (subst (Each IsFlight) c.flights-flights.ensures.flights c.flights-flights.ensures.limits) c.find.new.self.of.items ruled c.in_ok-outline.outline c.in_ok-outline.ensures.found c.args.found.now.items c.push.new.self.items c.in_ok-push.ensures.items
