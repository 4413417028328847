use Rattle.std.proofs.Common.{refl, subst, sym}
use Rattle.component_table.proofs.FlightFacts.{tables_put}
use Rattle.component_table.proofs.NetworkFacts.{network_with}
use Rattle.fare_ends.proofs.EndFacts.{knows_self}
use Rattle.component_table.specs.Tables.{IsPricedTable}
use Rattle.fare_ends.specs.Begins.{shared}
use Rattle.component_table.proofs.networks.Network.find_flight.Goals as goal

pub returns-clause-network : goal.returns-clause-network
returns-clause-network c =
    let b = c.args.case.now.book.now in
    let q = c.args.case.now.request.now in
    let at = c.args.at.now in
    let n = c.args.number in
    let old = c.begin_shared.new.self in
    let known = old.room.known.outlines.of.items in
    let h = c.in_ok-begin_shared.ensures.network in
    let table = subst (IsPricedTable b q (shared at n) known) (sym c.as_slice-table.ensures.value) c.in_ok-begin_shared.ensures.table in
    network_with b q old _ h h.markets h.masks refl refl (knows_self old.room.known.fares) (record {
      known = h.room.known;
      ranges = c.put.ensures.ranges;
      flights = tables_put b q at n known c.as_slice-table.result.now old.room.flights c.put.new.self c.requires.leg c.requires.flight h.room.flights c.put.ensures.put table;
      merging = h.room.merging;
    })
