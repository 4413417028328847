use Rattle.std.proofs.Common.{true, false, cond, ◌^◌, ◌≡◌, ap, sym, ◌∙◌}
use Rattle.fare_law.specs.RuleLimits.{rank_of_kind}
use Rattle.fare_rules.specs.Demands.{lists_kind}
use Rattle.fare_rules.proofs.KindLemmas.{listed_tells}
use Rattle.fare_rules.proofs.kinds.listed.Goals as goal

pub returns-then-contains : goal.returns-then-contains
returns-then-contains c =
    let e = listed_tells c.args.kind c.args.kinds.now in
    let t : lists_kind c.args.kinds.now c.args.kind ≡ true = sym e ∙ sym c.contains.ensures.value ∙ c.if-contains.true in
    c.kind_number.ensures ∙ sym (ap (λ b. cond b (2 ^ rank_of_kind c.args.kind) 0) t)

pub returns-else-contains : goal.returns-else-contains
returns-else-contains c =
    let e = listed_tells c.args.kind c.args.kinds.now in
    let t : lists_kind c.args.kinds.now c.args.kind ≡ false = sym e ∙ sym c.contains.ensures.value ∙ c.if-contains.false in
    sym (ap (λ b. cond b (2 ^ rank_of_kind c.args.kind) 0) t)
