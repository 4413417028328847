use Rattle.std.proofs.Common.{ap₂, sym, ◌∙◌}
use Rattle.std.specs.Option.{option_cmp}
use Rattle.std.specs.Ordering.{int_cmp, nat_cmp}
use Rattle.seat_classes.proofs.NameOrder.{days_left}
use Rattle.seat_classes.proofs.row_name.RowNameOrd.cmp.Goals as goal

pub returns-in-Equal-cmp : goal.returns-in-Equal-cmp
returns-in-Equal-cmp c =
    let a = c.args.self.now in
    let b = c.args.other.now in
    c.cmp-in-Equal-cmp.ensures
    ∙ ap₂ (λ s o. option_cmp int_cmp s.day o.day) c.self.view_is c.other.view_is
    ∙ sym
    (days_left a b c.flight_code.ensures.letters c.flight_code-2.ensures.letters c.place_code.ensures.letters c.place_code-in-Equal.ensures.letters
    (sym (ap₂ nat_cmp c.flight_code.ensures.code c.flight_code-2.ensures.code) ∙ sym c.cmp.ensures ∙ c.in-Equal.is)
    (sym (ap₂ nat_cmp c.place_code.ensures.code c.place_code-in-Equal.ensures.code) ∙ sym c.cmp-in-Equal.ensures ∙ c.in-Equal-cmp.is))
