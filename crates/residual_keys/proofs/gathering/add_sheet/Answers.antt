use Rattle.std.proofs.Common.{Some, sym, ap, subst, ◌∙◌}
use Rattle.std.specs.Arc.{arc_value}
use Rattle.residual_keys.specs.Gathered.{OffersOn}
use Rattle.residual_keys.proofs.Offered.{offers_on}
use Rattle.residual_keys.proofs.Offering.{path_some}
use Rattle.residual_keys.proofs.Runs.{flies_numbers}
use Rattle.residual_keys.proofs.Sheeted.{is_sheet, key_within, rows_within}
use Rattle.residual_keys.proofs.gathering.add_sheet.Goals as goal

pub take-requires : goal.take-requires
take-requires g c =
    let b = c.args.book.now in
    let q = c.args.request.now in
    let r = c.args.residual.now in
    let path = c.args.way.now.path in
    let fs = c.args.way.now.flights in
    let sheet = arc_value c.args.sheet.now in
    let laws = c.order_laws.ensures in
    key_within (record { legs = c.copied.result; sheet = c.in_ok-try_clone.field-0 }) c.args.way.now.legs fs sheet c.copied.ensures c.in_ok-try_clone.ensures c.requires.way.legs.flights
    (path_some b q r path fs c.requires.way.path (flies_numbers b q.slices (Some r.at) path.after path.flights fs c.requires.way.path.flies)) c.requires.way.path.shape.few c.requires.way.limits
    (is_sheet laws.less_never laws.less_trans laws.less_total b c.limits.ensures sheet c.requires.sheet) (rows_within laws.less_never laws.less_trans laws.less_total b c.limits.ensures sheet c.requires.sheet)

pub add_offers-requires-clause-offered : goal.add_offers-requires-clause-offered
add_offers-requires-clause-offered g c =
    let sheet = arc_value c.args.sheet.now in
    let rows = arc_value c.in_ok-offered.offered in
    let on = offers_on (record { legs = c.copied.result; sheet = c.in_ok-try_clone.field-0 }) c.args.way.now.legs sheet rows c.copied.ensures c.in_ok-try_clone.ensures c.in_ok-offered.ensures.offers in
    subst (OffersOn c.args.way.now.legs c.deref-2.result.now.rows) (sym (c.as_slice-offered.ensures ∙ ap (λ x. x.rows) c.deref.ensures)) (subst (λ s. OffersOn c.args.way.now.legs s.rows rows.rows) (sym c.deref-2.ensures) on)
