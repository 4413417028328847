use Rattle.std.proofs.Common.{◌≡◌, ℕ, ◌<◌, List, length, get_or, slice_get, Some, sym, ap, subst, ◌∙◌}
use Rattle.std.proofs.lemmas.List.{take_all}
use Rattle.fare_component.specs.declared.offer.Offer.{Offer}
use Rattle.fare_law.specs.Lists.{IsIn}
use Rattle.residual_keys.specs.Gathered.{Adds}
use Rattle.residual_keys.proofs.Offered.{Upto, all_upto, offered_at, offers_behind, place_within, row_within, upto_more, upto_none}
use Rattle.law_lemmas.proofs.Lists.{got_read, read_got}
use Rattle.law_lemmas.proofs.Members.{got_in}
use Rattle.residual_keys.proofs.gathering.add_offers.Goals as goal

offer_in : (os : List Offer) (i : ℕ) → i < length os → IsIn (get_or os i (record { place = 0; price = 0 })) os
offer_in os i lt = got_in os i (get_or os i (record { place = 0; price = 0 })) (got_read os i (record { place = 0; price = 0 }) lt)

pub loop-offer-init : goal.loop-offer-init
loop-offer-init c = upto_none c.args.book.now c.args.request.now c.args.residual.now c.args.way.now.path.flights c.args.reverse c.args.sheet.now.rows c.args.found.now

pub bounds-rows-offer : goal.bounds-rows-offer
bounds-rows-offer c =
    let os = c.args.offered.now in
    let i = c.loop-offer.offer-index in
    let lt = place_within c.args.book.now c.args.request.now c.args.residual.now c.args.way.now.path c.args.way.now.flights c.args.way.now.legs c.args.reverse c.args.sheet.now os c.requires.way.path c.requires.way.legs c.requires.market c.requires.sheet c.limits.ensures c.requires.offered (get_or os i (record { place = 0; price = 0 })) (offer_in os i c.loop-offer-test.true) in
    subst (λ xs. (get_or os i (record { place = 0; price = 0 })).place < length xs) (sym (c.as_slice-rows.ensures ∙ ap (λ s. s.rows) c.sheet.view_is)) lt

pub add_offer-requires-clause-row : goal.add_offer-requires-clause-row
add_offer-requires-clause-row c =
    let b = c.args.book.now in
    let os = c.args.offered.now in
    let i = c.loop-offer.offer-index in
    let o : Offer = get_or os i (record { place = 0; price = 0 }) in
    let within = offer_in os i c.loop-offer-test.true in
    let rows = c.as_slice-rows.ensures ∙ ap (λ s. s.rows) c.sheet.view_is in
    let lt = place_within b c.args.request.now c.args.residual.now c.args.way.now.path c.args.way.now.flights c.args.way.now.legs c.args.reverse c.args.sheet.now os c.requires.way.path c.requires.way.legs c.requires.market c.requires.sheet c.limits.ensures c.requires.offered o within in
    let stands = subst (λ xs. slice_get xs o.place ≡ Some c.index-rows-offer.result) rows (read_got c.as_slice-rows.result.now o.place _ c.index-rows-offer.result (subst (λ xs. o.place < length xs) (sym rows) lt) c.index-rows-offer.is) in
    offered_at b c.args.request.now c.args.residual.now c.args.way.now.path c.args.way.now.flights c.args.way.now.legs c.args.reverse c.args.sheet.now os c.requires.way.path c.requires.way.legs c.requires.market c.requires.sheet c.limits.ensures c.requires.offered o within c.index-rows-offer.result stands

pub add_offer-requires-clause-fare : goal.add_offer-requires-clause-fare
add_offer-requires-clause-fare c =
    let b = c.args.book.now in
    let os = c.args.offered.now in
    let i = c.loop-offer.offer-index in
    let o : Offer = get_or os i (record { place = 0; price = 0 }) in
    let within = offer_in os i c.loop-offer-test.true in
    let rows = c.as_slice-rows.ensures ∙ ap (λ s. s.rows) c.sheet.view_is in
    let lt = place_within b c.args.request.now c.args.residual.now c.args.way.now.path c.args.way.now.flights c.args.way.now.legs c.args.reverse c.args.sheet.now os c.requires.way.path c.requires.way.legs c.requires.market c.requires.sheet c.limits.ensures c.requires.offered o within in
    let stands = subst (λ xs. slice_get xs o.place ≡ Some c.index-rows-offer.result) rows (read_got c.as_slice-rows.result.now o.place _ c.index-rows-offer.result (subst (λ xs. o.place < length xs) (sym rows) lt) c.index-rows-offer.is) in
    (row_within b c.args.request.now c.args.residual.now c.args.way.now.path c.args.way.now.flights c.args.way.now.legs c.args.reverse c.args.sheet.now os c.requires.way.path c.requires.way.legs c.requires.market c.requires.sheet c.limits.ensures c.requires.offered o within c.index-rows-offer.result stands).0

pub add_offer-requires-clause-rule : goal.add_offer-requires-clause-rule
add_offer-requires-clause-rule c =
    let b = c.args.book.now in
    let os = c.args.offered.now in
    let i = c.loop-offer.offer-index in
    let o : Offer = get_or os i (record { place = 0; price = 0 }) in
    let within = offer_in os i c.loop-offer-test.true in
    let rows = c.as_slice-rows.ensures ∙ ap (λ s. s.rows) c.sheet.view_is in
    let lt = place_within b c.args.request.now c.args.residual.now c.args.way.now.path c.args.way.now.flights c.args.way.now.legs c.args.reverse c.args.sheet.now os c.requires.way.path c.requires.way.legs c.requires.market c.requires.sheet c.limits.ensures c.requires.offered o within in
    let stands = subst (λ xs. slice_get xs o.place ≡ Some c.index-rows-offer.result) rows (read_got c.as_slice-rows.result.now o.place _ c.index-rows-offer.result (subst (λ xs. o.place < length xs) (sym rows) lt) c.index-rows-offer.is) in
    (row_within b c.args.request.now c.args.residual.now c.args.way.now.path c.args.way.now.flights c.args.way.now.legs c.args.reverse c.args.sheet.now os c.requires.way.path c.requires.way.legs c.requires.market c.requires.sheet c.limits.ensures c.requires.offered o within c.index-rows-offer.result stands).1

pub loop-offer-preserved : goal.loop-offer-preserved
loop-offer-preserved c =
    let b = c.args.book.now in
    let os = c.args.offered.now in
    let i = c.loop-offer.offer-index in
    let o : Offer = get_or os i (record { place = 0; price = 0 }) in
    let within = offer_in os i c.loop-offer-test.true in
    let rows = c.as_slice-rows.ensures ∙ ap (λ s. s.rows) c.sheet.view_is in
    let lt = place_within b c.args.request.now c.args.residual.now c.args.way.now.path c.args.way.now.flights c.args.way.now.legs c.args.reverse c.args.sheet.now os c.requires.way.path c.requires.way.legs c.requires.market c.requires.sheet c.limits.ensures c.requires.offered o within in
    let stands = subst (λ xs. slice_get xs o.place ≡ Some c.index-rows-offer.result) rows (read_got c.as_slice-rows.result.now o.place _ c.index-rows-offer.result (subst (λ xs. o.place < length xs) (sym rows) lt) c.index-rows-offer.is) in
    let laws = c.order_laws.ensures in
    upto_more b c.args.request.now c.args.residual.now c.args.way.now.path.flights c.args.reverse c.args.sheet.now.rows laws.less_never laws.less_trans laws.less_total c.requires.sheet.ascending os i (record { place = 0; price = 0 }) c.index-rows-offer.result
    c.args.found.now c.loop-offer.found c.add_offer.new.found c.loop-offer-test.true stands (λ p k. offers_behind os i (record { place = 0; price = 0 }) p c.requires.offered.ascending c.loop-offer-test.true k) c.loop-offer.invariant c.in_ok-add_offer.ensures

pub returns : goal.returns
returns c =
    all_upto c.args.book.now c.args.request.now c.args.residual.now c.args.way.now.path c.args.way.now.flights c.args.way.now.legs c.args.reverse c.args.sheet.now c.args.offered.now c.requires.way.path c.requires.way.legs c.requires.market c.requires.sheet c.limits.ensures c.requires.offered
    c.args.found.now c.loop-offer.found
    (subst (λ xs. Adds (Upto c.args.book.now c.args.request.now c.args.residual.now c.args.way.now.path.flights c.args.reverse c.args.sheet.now.rows xs) c.args.found.now c.loop-offer.found) (take_all c.loop-offer.offer-index c.args.offered.now c.loop-offer-test.false) c.loop-offer.invariant)
