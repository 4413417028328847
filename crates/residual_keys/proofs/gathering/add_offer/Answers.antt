use Rattle.std.proofs.Common.{rules, ◌≡◌, sym, ◌∙◌, subst, refl, arith}
use Rattle.residual_keys.specs.Gathered.{IsReadOver}
use Rattle.residual_keys.proofs.Offering.{adds_chosen}
use Rattle.residual_keys.proofs.gathering.add_offer.Goals as goal

pub returns : goal.returns
returns c =
    let q = c.args.request.now in
    let row = c.args.row.now in
    let p = c.facts_over.result in
    let over = c.facts_over.ensures.over in
    let sale : p.sale ≡ q.sale = search rules in
    let read = subst (λ fs. IsReadOver q.sale fs row c.args.reverse p) c.as_slice.ensures.items (subst (λ d. IsReadOver d c.as_slice.result.now row c.args.reverse p) (sym over.sale_is ∙ sale) over) in
    adds_chosen c.args.book.now q c.args.residual.now _ c.args.way.now.flights c.args.way.now.legs row c.args.reverse c.requires.way.path c.requires.way.legs c.requires.row (omega (arith, c.requires.fare.class)) read refl c.args.found.now c.add_choices.new.found c.in_ok-add_choices.ensures
