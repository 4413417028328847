use Rattle.std.proofs.Common.{◌≡◌, ◌∙◌, ap₂}
use Rattle.cheap_moves.proofs.Sooner.{flights_compare, flights_tell}
use Rattle.cheap_moves.proofs.least.compared.Goals as goal

pub returns-in_default : goal.returns-in_default
returns-in_default c =
    let one = c.args.one.now in
    let other = c.args.other.now in
    let told : c.flights_compared.result ≡ flights_compare one.chosen.mv.flights other.chosen.mv.flights = c.flights_compared.ensures ∙ ap₂ flights_compare c.as_slice.ensures.items c.as_slice-2.ensures.items in
    told ∙ flights_tell one.total other.total one.chosen.mv.flights other.chosen.mv.flights _ _ c.if-one-other.false (λ e. c.in_default.not-Equal (told ∙ e))
