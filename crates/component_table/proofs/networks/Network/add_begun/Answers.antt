use Rattle.std.proofs.Common.{◌<◌, ap, length, refl, slice_get, sym, subst, ◌∙◌}
use Rattle.component_table.proofs.NetworkFacts.{network_with, room_more}
use Rattle.law_lemmas.proofs.Lists.{got_read, got_within}
use Rattle.component_table.proofs.networks.Network.add_begun.Goals as goal

pub add-requires-clause-origin : goal.add-requires-clause-origin
add-requires-clause-origin c =
    let one = c.requires.one in
    let flights = c.args.case.now.book.now.timetable.flights in
    let at = c.args.at.now in
    let lt = subst (λ fs. at.lo < length fs) (sym c.flights.ensures.flights) (got_within flights at.lo one.first one.stands) in
    record {
      slice = one.slice;
      one = one.one;
      first = ap (λ fs. slice_get fs at.lo) (sym c.flights.ensures.flights) ∙ got_read c.flights.result.now at.lo _ lt;
    }

pub returns-clause-network : goal.returns-clause-network
returns-clause-network c =
    let b = c.args.case.now.book.now in
    let q = c.args.case.now.request.now in
    let n = c.args.self.now in
    network_with b q n _ c.requires.network c.add.ensures.markets c.add.ensures.masks refl refl c.add.ensures.stays.fares
    (room_more b q n.room _ c.requires.network.room c.add.ensures.known c.add.ensures.stays.outlines refl refl)
