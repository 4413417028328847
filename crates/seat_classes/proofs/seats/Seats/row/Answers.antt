use Rattle.std.proofs.Common.{ap, ◌∙◌}
use Rattle.seat_classes.specs.Held.{seats_at}
use Rattle.seat_classes.proofs.HeldLemmas.{found_is}
use Rattle.seat_classes.proofs.seats.Seats.row.Goals as goal

pub returns : goal.returns
returns c =
    let key = c.args.key.now in
    c.copied.ensures ∙ c.get.ensures.value ∙ found_is c.self.inside.rows.entries c.of.result ∙ ap (seats_at c.self.inside.rows.entries) c.of.ensures ∙ ap (λ held. seats_at held key) c.self.view_is
