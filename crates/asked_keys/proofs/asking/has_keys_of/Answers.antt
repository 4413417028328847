use Rattle.std.proofs.Common.{◌≡◌, ◌∙◌, true, sym, ap}
use Rattle.asked_keys.proofs.SameKeys.{same_keys}
use Rattle.asked_keys.proofs.asking.has_keys_of.Goals as goal

pub returns-then-same_position : goal.returns-then-same_position
returns-then-same_position c = λ alike b q.
    let at : c.args.one.now.at ≡ c.args.other.now.at = sym (ap (λ x. x.at) c.one.view_is) ∙ c.same_position.ensures.0 c.if-same_position.true ∙ ap (λ x. x.at) c.other.view_is in
    same_keys b q c.args.one.now c.args.other.now at (c.open_too.ensures alike)

pub returns-else-same_position : goal.returns-else-same_position
returns-else-same_position c = λ is. let same : c.same_position.result ≡ true = is in let not = c.if-same_position.false in absurd (cc)
