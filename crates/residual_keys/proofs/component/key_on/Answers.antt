use Rattle.std.proofs.Common.{true, false, sym, ap, ◌∙◌}
use Rattle.residual_keys.proofs.StepFacts.{key_stands}
use Rattle.residual_keys.proofs.component.key_on.Goals as goal

pub returns-then-closes : goal.returns-then-closes
returns-then-closes c =
    let k = c.key_between.ensures in
    key_stands c.args.mv.now c.args.flights.now c.first_of.result.now c.last_of.result.now c.key_between.result true (sym c.closes.ensures ∙ c.if-closes.true) c.first_of.ensures.first c.last_of.ensures.last (ap (λ x. x.carrier) k) (ap (λ x. x.basis) k) (ap (λ x. x.from) k, ap (λ x. x.to) k)

pub returns-else-closes : goal.returns-else-closes
returns-else-closes c =
    let k = c.key_between-else-closes.ensures in
    key_stands c.args.mv.now c.args.flights.now c.first_of.result.now c.last_of.result.now c.key_between-else-closes.result false (sym c.closes.ensures ∙ c.if-closes.false) c.first_of.ensures.first c.last_of.ensures.last (ap (λ x. x.carrier) k) (ap (λ x. x.basis) k) (ap (λ x. x.from) k, ap (λ x. x.to) k)
