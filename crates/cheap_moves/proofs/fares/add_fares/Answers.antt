use Rattle.std.proofs.Common.{◌+◌, ◌<◌, length, take, get_or, refl, sym, ap, subst}
use Rattle.cheap_moves.specs.Making.{IsFareMove, Of}
use Rattle.cheap_moves.proofs.FareMoves.{fares_more, no_more}
use Rattle.fare_groups.specs.declared.group.GroupedFare.{GroupedFare}
use Rattle.fare_law.specs.Lists.{IsIn}
use Rattle.residual_keys.specs.Gathered.{Adds}
use Rattle.law_lemmas.proofs.Members.{read_in}
use Rattle.cheap_moves.proofs.fares.add_fares.Goals as goal

abbrev no_fare : GroupedFare
no_fare = record { place = 0; class = 0; share = 0 }

pub price_within-requires-clause-fare : goal.price_within-requires-clause-fare
price_within-requires-clause-fare g c =
    let items = c.as_slice-fare-items.result.now in
    let i = c.loop-fare.fare-index in
    subst (IsIn (get_or items i no_fare)) c.as_slice-fare-items.ensures (read_in items i no_fare (get_or items i no_fare) c.loop-fare-test.true refl)

pub add_fare-requires-clause-fare : goal.add_fare-requires-clause-fare
add_fare-requires-clause-fare g c =
    let items = c.as_slice-fare-items.result.now in
    let i = c.loop-fare.fare-index in
    subst (IsIn (get_or items i no_fare)) c.as_slice-fare-items.ensures (read_in items i no_fare (get_or items i no_fare) c.loop-fare-test.true refl)

pub loop-fare-preserved : goal.loop-fare-preserved
loop-fare-preserved g c =
    let k = c.args.component.now in
    let limit = c.args.search.now.limit in
    let way = c.args.onward.now in
    let laws = c.order_laws.ensures in
    let items = c.as_slice-fare-items.result.now in
    let e = c.as_slice-fare-items.ensures in
    let i = c.loop-fare.fare-index in
    subst (λ xs. Adds (Of (IsFareMove k limit way) (take (i + 1) xs)) c.args.found.now c.add_fare.new.found) (sym e)
    (fares_more c.args.search.now.book.now c.args.search.now.request.now c.args.search.now.residual.now k limit way c.requires laws.less_never laws.less_trans laws.less_total i no_fare (get_or items i no_fare)
    c.args.found.now c.loop-fare.found c.add_fare.new.found (subst (λ xs. i < length xs) e c.loop-fare-test.true) (ap (λ xs. get_or xs i no_fare) e)
    (subst (λ xs. Adds (Of (IsFareMove k limit way) (take i xs)) c.args.found.now c.loop-fare.found) e c.loop-fare.invariant) c.in_ok-add_fare.ensures)

pub returns-in_default : goal.returns-in_default
returns-in_default g c =
    let items = c.as_slice-fare-items.result.now in
    let e = c.as_slice-fare-items.ensures in
    let i = c.loop-fare.fare-index in
    no_more c.args.search.now.book.now c.args.search.now.request.now c.args.search.now.residual.now c.args.component.now c.args.search.now.limit c.args.onward.now c.requires i no_fare (get_or items i no_fare) c.args.found.now c.loop-fare.found (subst (λ xs. i < length xs) e c.loop-fare-test.true) (ap (λ xs. get_or xs i no_fare) e)
    c.in_default.ensures.none (subst (λ xs. Adds (Of (IsFareMove c.args.component.now c.args.search.now.limit c.args.onward.now) (take i xs)) c.args.found.now c.loop-fare.found) e c.loop-fare.invariant)
