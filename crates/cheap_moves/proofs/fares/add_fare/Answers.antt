use Rattle.std.proofs.Common.{◌≡◌, ◌<◌, length, slice_get, Some, sym, ap, subst, ◌∙◌}
use Rattle.cheap_moves.proofs.FareMoves.{class_low, fare_made, place_low, row_at}
use Rattle.fare_law.specs.Sheets.{Sheet}
use Rattle.law_lemmas.proofs.Lists.{got_same}
use Rattle.law_lemmas.proofs.Options.{on_ok}
use Rattle.cheap_moves.proofs.fares.add_fare.Goals as goal

pub is_open-requires : goal.is_open-requires
is_open-requires g c =
    let k = c.args.component.now in
    let is = c.requires.component in
    class_low c.args.search.now.book.now c.args.search.now.request.now c.args.search.now.residual.now.at k.flown.now.way.path k.flown.now.way.flights k.flown.now.way.legs k.flown.now.classes k.facts.reverse k.market.now.sheet.value k.market.now.groups is.over.over k.group.now is.within c.args.fare.now c.requires.fare

pub bounds-as_slice-fare : goal.bounds-as_slice-fare
bounds-as_slice-fare g c =
    let k = c.args.component.now in
    let is = c.requires.component in
    let lt = place_low c.args.search.now.book.now c.args.search.now.request.now c.args.search.now.residual.now.at k.flown.now.way.path k.flown.now.way.flights k.flown.now.way.legs k.flown.now.classes k.facts.reverse k.market.now.sheet.value k.market.now.groups is.over.over k.group.now is.within c.args.fare.now c.requires.fare in
    subst (λ rows. c.args.fare.now.place < length rows) (sym (c.as_slice.ensures ∙ ap (λ (s : Sheet). s.rows) (c.sheet.view_is ∙ c.deref-sheet.ensures))) lt

pub returns : goal.returns
returns g c =
    let k = c.args.component.now in
    let is = c.requires.component in
    let f = c.args.fare.now in
    let limit = c.args.search.now.limit in
    let x = row_at c.args.search.now.book.now c.args.search.now.request.now c.args.search.now.residual.now.at k.flown.now.way.path k.flown.now.way.flights k.flown.now.way.legs k.flown.now.classes k.facts.reverse k.market.now.sheet.value k.market.now.groups is.over.over k.group.now is.within f c.requires.fare in
    let rows = c.as_slice.ensures ∙ ap (λ (s : Sheet). s.rows) (c.sheet.view_is ∙ c.deref-sheet.ensures) in
    let same = got_same k.market.now.sheet.value.rows c.as_slice.result.now f.place _ x.row c.index-as_slice-fare.result rows c.index-as_slice-fare.is x.stands in
    let stands : slice_get k.market.now.sheet.value.rows f.place ≡ Some c.index-as_slice-fare.result = x.stands ∙ ap Some (sym same) in
    let open_class = c.is_open.ensures.0 c.if-not-is_open.false in
    on_ok c.push.result _ _ (λ e. fare_made k limit c.args.onward.now f c.args.found.now c.push.new.self c.index-as_slice-fare.result c.move_of.result c.args.price stands open_class c.requires.within c.move_of.ensures c.requires.price e) c.push.ensures.items
