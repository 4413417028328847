use Rattle.std.proofs.Common.{refl, ◌∙◌, ◌∷◌, [], ap, length}
use Rattle.outline_tables.proofs.TableFacts.{all_of, ranges_added, ranges_kept, table_added, tables_kept}
use Rattle.outline_tables.proofs.flight_tables.FlightTables.add.Goals as goal

pub returns-in_err-push-clause-ranges : goal.returns-in_err-push-clause-ranges
returns-in_err-push-clause-ranges c =
    let old = c.args.self.now in
    ranges_kept old _ c.requires refl c.in_err-push.ensures.items (c.args.table.now, c.in_ok-extend_from_slice.ensures.items)

pub returns-in_err-push-clause-keeps : goal.returns-in_err-push-clause-keeps
returns-in_err-push-clause-keeps c =
    let old = c.args.self.now in
    tables_kept old _ c.requires refl (c.args.table.now, c.in_ok-extend_from_slice.ensures.items) (all_of old.ranges.items c.push.new.self.items c.in_err-push.ensures.items)

pub returns-clause-ranges : goal.returns-clause-ranges
returns-clause-ranges c =
    let old = c.args.self.now in
    let items = c.in_ok-extend_from_slice.ensures.items in
    ranges_added old _ c.args.table.now (record { from = c.len-from.result; to = c.len-to.result }) c.requires refl items c.in_ok-push.ensures.items (c.len-from.ensures ∙ old.entries.ok.0) (c.len-to.ensures ∙ c.extend_from_slice.new.self.ok.0 ∙ ap length items)

pub returns-clause-keeps : goal.returns-clause-keeps
returns-clause-keeps c =
    let old = c.args.self.now in
    tables_kept old _ c.requires refl (c.args.table.now, c.in_ok-extend_from_slice.ensures.items) (record { from = c.len-from.result; to = c.len-to.result } ∷ [], c.in_ok-push.ensures.items)

pub returns-clause-added : goal.returns-clause-added
returns-clause-added c =
    let old = c.args.self.now in
    let items = c.in_ok-extend_from_slice.ensures.items in
    let pushed = c.in_ok-push.ensures.items in
    table_added old _ c.args.table.now (record { from = c.len-from.result; to = c.len-to.result }) c.len.result items pushed (c.len-from.ensures ∙ old.entries.ok.0) (c.len-to.ensures ∙ c.extend_from_slice.new.self.ok.0 ∙ ap length items) (c.len.ensures ∙ c.push.new.self.ok.0 ∙ ap length pushed)
