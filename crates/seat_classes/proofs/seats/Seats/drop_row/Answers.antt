use Rattle.std.proofs.Common.{◌≡◌, None, is_some, ap, sym, subst, ◌∙◌}
use Rattle.seat_classes.specs.Held.{Changes, seats_at}
use Rattle.seat_classes.proofs.HeldLemmas.{changes_from, found_is}
use Rattle.seat_classes.proofs.seats.Seats.drop_row.Goals as goal

pub returns-clause-found : goal.returns-clause-found
returns-clause-found c =
    let key = c.args.key.now in
    let told : c.is_some.result ≡ is_some (seats_at c.args.self.now key) =
    c.is_some.ensures ∙ ap is_some (c.remove.ensures.value ∙ found_is c.self.inside.rows.entries c.of.result ∙ ap (seats_at c.self.inside.rows.entries) c.of.ensures ∙ ap (λ held. seats_at held key) c.self.view_is) in
    (λ t. sym told ∙ t, λ s. told ∙ s)

pub returns-clause-row : goal.returns-clause-row
returns-clause-row c =
    let key = c.args.key.now in
    let new = c.remove.new.self.entries in
    subst (λ held. Changes held new key None) c.self.view_is (subst (λ k. Changes c.self.inside.rows.entries new k None) c.of.ensures (changes_from c.self.inside.rows.entries new c.of.result None c.remove.ensures.updates.0))
