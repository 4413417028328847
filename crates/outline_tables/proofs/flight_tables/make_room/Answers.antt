use Rattle.std.proofs.Common.{◌<◌, length, set}
use Rattle.law_lemmas.proofs.Lists.{read_got}
use Rattle.law_lemmas.proofs.Options.{on_ok}
use Rattle.outline_tables.specs.FlightTables.{HasRoom}
use Rattle.outline_tables.proofs.TableFacts.{level_kept, level_room, levels_on}
use Rattle.outline_tables.proofs.flight_tables.make_room.Goals as goal

pub returns-clause-keeps : goal.returns-clause-keeps
returns-clause-keeps c =
    let mid = c.add_levels.new.levels.items in
    let level = c.args.level in
    let old = c.index_mut.result.now in
    let new = c.lengthen.new.places in
    let there = read_got mid level old old c.in_ok-add_levels.ensures.room c.index_mut.ensures.value in
    levels_on c.args.levels.now.items mid (set mid level new) c.in_ok-add_levels.ensures.keeps (level_kept mid level old new there c.lengthen.ensures.keeps)

pub returns-clause-room : goal.returns-clause-room
returns-clause-room c =
    let mid = c.add_levels.new.levels.items in
    let level = c.args.level in
    let old = c.index_mut.result.now in
    let new = c.lengthen.new.places in
    let there = read_got mid level old old c.in_ok-add_levels.ensures.room c.index_mut.ensures.value in
    on_ok c.lengthen.result (c.args.flight < length new.items) (HasRoom (set mid level new) level c.args.flight) (level_room mid level c.args.flight old new there) c.lengthen.ensures.room
