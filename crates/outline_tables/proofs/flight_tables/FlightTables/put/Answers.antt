use Rattle.std.proofs.Common.{inl, refl, subst}
use Rattle.outline_tables.specs.declared.flight_tables.FlightTables.{FlightTables}
use Rattle.outline_tables.specs.FlightTables.{PutsTable, TableStands}
use Rattle.outline_tables.proofs.TableFacts.{is_put, room_keeps, room_ranges}
use Rattle.outline_tables.proofs.flight_tables.FlightTables.put.Goals as goal

pub returns-in_err-make_room-clause-ranges : goal.returns-in_err-make_room-clause-ranges
returns-in_err-make_room-clause-ranges c = room_ranges c.add.new.self _ refl refl c.in_err-make_room.ensures.keeps c.in_ok-place.ensures.ranges

pub returns-in_err-make_room-clause-put : goal.returns-in_err-make_room-clause-put
returns-in_err-make_room-clause-put c level flight table s =
    let added = c.add.new.self in
    let roomed : FlightTables = record { places = c.make_room.new.levels; ranges = added.ranges; entries = added.entries } in
    inl (c.in_ok-place.ensures.keeps level flight table (room_keeps added roomed refl refl c.in_err-make_room.ensures.keeps level flight table s))

pub returns-clause-ranges : goal.returns-clause-ranges
returns-clause-ranges c =
    let added = c.add.new.self in
    let so = c.in_ok-place.ensures in
    let new : FlightTables = record { places = c.set_place.new.levels; ranges = added.ranges; entries = added.entries } in
    (is_put c.args.self.now added new c.make_room.new.levels c.args.table.now c.level_of-level.result c.args.flight c.in_ok-place.place refl refl so.ranges so.keeps so.added c.in_ok-make_room.ensures.keeps c.set_place.ensures).ranges

pub returns-clause-put : goal.returns-clause-put
returns-clause-put c =
    let added = c.add.new.self in
    let so = c.in_ok-place.ensures in
    let new : FlightTables = record { places = c.set_place.new.levels; ranges = added.ranges; entries = added.entries } in
    subst (λ level. PutsTable level c.args.flight c.args.table.now c.args.self.now new) c.level_of-level.ensures
    (is_put c.args.self.now added new c.make_room.new.levels c.args.table.now c.level_of-level.result c.args.flight c.in_ok-place.place refl refl so.ranges so.keeps so.added c.in_ok-make_room.ensures.keeps c.set_place.ensures).tables

pub returns-clause-stands : goal.returns-clause-stands
returns-clause-stands c =
    let added = c.add.new.self in
    let so = c.in_ok-place.ensures in
    let new : FlightTables = record { places = c.set_place.new.levels; ranges = added.ranges; entries = added.entries } in
    subst (λ level. TableStands new level c.args.flight c.args.table.now) c.level_of-level.ensures
    (is_put c.args.self.now added new c.make_room.new.levels c.args.table.now c.level_of-level.result c.args.flight c.in_ok-place.place refl refl so.ranges so.keeps so.added c.in_ok-make_room.ensures.keeps c.set_place.ensures).stands
