use Rattle.std.proofs.Common.{◌≡◌, None, Some, not, slice_get, ap, subst, sym, ◌∙◌, arith}
use Rattle.fare_ends.specs.declared.rule_numbers.KnownRule.{KnownRule}
use Rattle.fare_ends.specs.Ends.{between}
use Rattle.fare_ends.specs.Rungs.{AreRungs}
use Rattle.fare_ends.proofs.RungFacts.{share_low}
use Rattle.joint_paths.specs.Costs.{CostsLeast}
use Rattle.joint_paths.specs.declared.ruled_heads.RuledHeads.{RuledHeads}
use Rattle.joint_paths.specs.Joins.{PathsOf}
use Rattle.joint_paths.specs.Ruled.{IsOwnRule, IsRuled}
use Rattle.joint_paths.proofs.JoinSteps.{class_closed, rule_closed, rule_floor}
use Rattle.law_lemmas.proofs.Options.{if_ok, none_told, some_one}
use Rattle.joint_paths.proofs.joining.least_of.Goals as goal

pub returns-then-is_none-clause-least : goal.returns-then-is_none-clause-least
returns-then-is_none-clause-least c = λ one e.
    let j = c.args.joint.now in
    let room = c.args.room.now in
    let group = c.requires.group in
    let rungs = c.rungs-rungs.result.now in
    let are = subst (AreRungs group.fares) (sym c.rungs-rungs.ensures) group.rungs in
    subst (λ rs. CostsLeast one rs (PathsOf j j.tails.now) None) c.rungs-rungs.ensures
    (class_closed j room c.requires.room group.fares rungs are one (sym c.first_share.ensures ∙ none_told c.first_share.result (c.is_none.ensures ∙ ap not c.if-is_none.true)))

pub returns-in_default-clause-least : goal.returns-in_default-clause-least
returns-in_default-clause-least c = λ one e.
    let j = c.args.joint.now in
    let room = c.args.room.now in
    let group = c.requires.group in
    let rungs = c.rungs-rungs.result.now in
    let are = subst (AreRungs group.fares) (sym c.rungs-rungs.ensures) group.rungs in
    subst (λ rs. CostsLeast one rs (PathsOf j j.tails.now) None) c.rungs-rungs.ensures
    (rule_closed j room c.requires.room group.fares rungs are one c.find.new.self.charges.items c.in_ok-ruled.ruled (c.in_ok-ruled.ensures.ruled one e) (sym c.in_default.ensures))

pub overflow_add-sought : goal.overflow_add-sought
overflow_add-sought c =
    let j = c.args.joint.now in
    let room = c.args.room.now in
    let group = c.requires.group in
    let rungs = c.rungs-rungs.result.now in
    let are = subst (AreRungs group.fares) (sym c.rungs-rungs.ensures) group.rungs in
    let share = share_low group.fares rungs _ c.in-Some.share are (sym c.in-Some.ensures) in
    let least = (c.in_ok-ruled.ensures.ruled group.rule group.stands).low in
    omega (arith, share, least)

pub over_tails-requires-clause-sought : goal.over_tails-requires-clause-sought
over_tails-requires-clause-sought c =
    let j = c.args.joint.now in
    let room = c.args.room.now in
    let group = c.requires.group in
    let rungs = c.rungs-rungs.result.now in
    let are = subst (AreRungs group.fares) (sym c.rungs-rungs.ensures) group.rungs in
    let k = j.bucket.now in
    let rule = c.get.result.now in
    let ruled = c.in_ok-ruled.ensures.ruled rule c.get.ensures in
    record {
      fares = group.fares;
      rungs = are;
      stands = c.get.ensures;
      own = subst (IsOwnRule k) (some_one (slice_get j.fares.now.rules.of.items c.args.group.now.rule) group.rule rule group.stands c.get.ensures) group.own;
      ruled = subst (λ (r : RuledHeads). IsRuled k r.charges.items rule c.in_ok-ruled.ruled) (sym c.ask.ensures.ruled) ruled;
      floor = rule_floor j room c.requires.room group.fares rungs are rule c.find.new.self.charges.items c.in_ok-ruled.ruled ruled c.in-Some.share (sym c.in-Some.ensures);
    }

pub returns-clause-least : goal.returns-clause-least
returns-clause-least c =
    let j = c.args.joint.now in
    let g = c.args.group.now in
    let rungs = c.rungs-rungs.result.now in
    let rule = c.get.result.now in
    let rules = j.fares.now.rules.of.items in
    if_ok c.over_tails.result (CostsLeast rule rungs (PathsOf j j.tails.now)) (λ least. (one : KnownRule) → slice_get rules g.rule ≡ Some one → CostsLeast one (between j.fares.now.rungs.items g.from g.to) (PathsOf j j.tails.now) least)
    (λ least h one e. subst (λ rs. CostsLeast one rs (PathsOf j j.tails.now) least) c.rungs-rungs.ensures (subst (λ (r : KnownRule). CostsLeast r rungs (PathsOf j j.tails.now) least) (some_one (slice_get rules g.rule) rule one c.get.ensures e) h)) c.over_tails.ensures.least
