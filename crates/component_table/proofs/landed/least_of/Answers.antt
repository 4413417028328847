use Rattle.std.proofs.Common.{length, refl, slice_get, subst, sym}
use Rattle.component_table.specs.declared.landed.LandedSought.{LandedSought}
use Rattle.component_table.specs.Landed.{IsLandedOf, IsSaidOfRule, SaysOfLandings}
use Rattle.component_table.proofs.SoughtFacts.{both_ways, group_closed, group_sought, said_after, said_of_rule}
use Rattle.fare_ends.specs.Ends.{between}
use Rattle.joint_paths.specs.Costs.{CostsLeast}
use Rattle.joint_paths.proofs.SaidFacts.{said_turned}
use Rattle.law_lemmas.proofs.Options.{some_one}
use Rattle.component_table.proofs.landed.least_of.Goals as goal
use Rattle.component_table.proofs.landed.least_of.Goals.{then-not-rule+in_ok-turn_to, else-not-rule}

pub returns-in_default-clause-least : goal.returns-in_default-clause-least
returns-in_default-clause-least c = λ one stands.
    group_closed c.args.origin.now c.args.fares.now c.args.class.now c.requires.class c.args.group.now c.requires.group c.rungs-rungs.result.now c.rungs-rungs.ensures one (sym c.in_default.ensures)

pub least_over-requires-clause-sought : goal.least_over-requires-clause-sought
least_over-requires-clause-sought c =
    group_sought c.args.origin.now c.args.fares.now c.args.class.now c.requires.class c.args.group.now c.requires.group c.rungs-rungs.result.now c.rungs-rungs.ensures c.get-rule.result.now c.get-rule.ensures _ refl refl refl (sym c.in-Some.ensures)

pub least_over-requires-clause-said : goal.least_over-requires-clause-said
least_over-requires-clause-said c =
    let o = c.args.origin.now in
    let k = c.args.class.now in
    let rules = c.args.fares.now.rules.of.items in
    let s : LandedSought = record { rungs = c.rungs-rungs.result; rule = c.get-rule.result; number = c.args.group.now.rule; floor = c.in-Some.floor } in
    elim c.if-not-rule.branch [
      | then-not-rule+in_ok-turn_to w ↦
          let t = w.in_ok-turn_to.ensures in
          subst (IsSaidOfRule o k s) (sym w.charges-is) (said_of_rule o k s rules w.turn_to.new.self c.get-rule.ensures t.rule (said_turned (SaysOfLandings o rules k) (length k.landings.now) s.number c.args.charges.now w.turn_to.new.self t.stays t.anew c.requires.said))
      | else-not-rule w ↦ λ tests. absurd (both_ways c.get-rule.result.now.is_free w.if-not-rule.false tests)
    ]

pub returns-clause-said : goal.returns-clause-said
returns-clause-said c =
    let o = c.args.origin.now in
    let k = c.args.class.now in
    let rules = c.args.fares.now.rules.of.items in
    let s : LandedSought = record { rungs = c.rungs-rungs.result; rule = c.get-rule.result; number = c.args.group.now.rule; floor = c.in-Some.floor } in
    said_after o k s rules c.args.charges.now c.if-not-rule.charges c.least_over.new.charges c.get-rule.ensures
    (λ free. elim c.if-not-rule.branch [
      | then-not-rule+in_ok-turn_to w ↦ absurd (both_ways c.get-rule.result.now.is_free free w.if-not-rule.true)
      | else-not-rule w ↦ w.charges-is
    ])
    c.least_over.ensures.free c.least_over.ensures.said c.requires.said

pub returns-clause-least : goal.returns-clause-least
returns-clause-least c = λ one stands.
    let o = c.args.origin.now in
    let k = c.args.class.now in
    let same = some_one (slice_get c.args.fares.now.rules.of.items c.args.group.now.rule) c.get-rule.result.now one c.get-rule.ensures stands in
    let fares = c.args.fares.now in
    let g = c.args.group.now in
    subst (λ r. CostsLeast r (between fares.rungs.items g.from g.to) (IsLandedOf o k.paths.now k.landings.now) c.least_over.result) same
    (subst (λ rs. CostsLeast c.get-rule.result.now rs (IsLandedOf o k.paths.now k.landings.now) c.least_over.result) c.rungs-rungs.ensures c.least_over.ensures.least)
