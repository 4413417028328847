-- The fields' comparisons, one after another, with the places of open units taken from their list.
use Rattle.std.proofs.Common.{◌≡◌, ◌∙◌, ap₂, refl, slice_get, subst}
use Rattle.std.specs.Option.{option_cmp}
use Rattle.std.specs.Ordering.{ordering_then}
use Rattle.flight_paths.specs.contracts.positions.PositionOrd.TheImpl as position
use Rattle.open_unit.specs.contracts.units.OpenUnitOrd.TheImpl as unit
use Rattle.residual_keys.specs.contracts.parts.TicketPartOrd.TheImpl as part
use Rattle.residual_keys.specs.contracts.residual.Residual.{the_view}
use Rattle.residual_keys.specs.contracts.residual.ResidualOrd.TheImpl as residual
use Rattle.residual_keys.proofs.Slots.{slots, from_left}
use Rattle.residual_keys.proofs.residual.ResidualOrd.cmp.Goals as goal

pub returns : goal.returns
returns c =
    let i = c.t1-1.inside in
    let j = c.t2-1.inside in
    let s = slots i.unit1 i.unit2 c.t1-1.invariant.turn in
    let t = slots j.unit1 j.unit2 c.t2-1.invariant.turn in
    let first = ap₂ (option_cmp unit.cmp-value.it) s.0 t.0 in
    let second = ap₂ (option_cmp unit.cmp-value.it) s.1 t.1 in
    subst (λ x. c.or_cmp-3.result ≡ residual.cmp-value.it x c.args.other.now) c.t1-1.view_is
    (subst (λ y. c.or_cmp-3.result ≡ residual.cmp-value.it (the_view i) y) c.t2-1.view_is
    (c.or_cmp-3.ensures
    ∙ ap₂ ordering_then (c.or_cmp-2.ensures ∙ ap₂ ordering_then (c.or_cmp.ensures ∙ ap₂ ordering_then c.cmp.ensures first) second) refl
    ∙ from_left (position.cmp-value.it i.at j.at)
    (option_cmp unit.cmp-value.it (slice_get (the_view i).units 0) (slice_get (the_view j).units 0))
    (option_cmp unit.cmp-value.it (slice_get (the_view i).units 1) (slice_get (the_view j).units 1))
    (part.cmp-value.it i.part j.part)))
