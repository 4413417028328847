use Rattle.std.proofs.Common.{refl, sym, subst}
use Rattle.std.specs.Arc.{arc_value}
use Rattle.fare_law.specs.Book.{live_fare, live_rule}
use Rattle.fare_law.specs.Faults.{filed}
use Rattle.fare_book.specs.Keeping.{History, Keeps}
use Rattle.fare_book.proofs.Versions.{draft_ready, next_keeps, next_view}
use Rattle.fare_book.proofs.book.Book.finish.Goals as goal

pub place_tables-requires : goal.place_tables-requires
place_tables-requires c =
    let b = filed c.args.self.now (arc_value c.args.filing).actions in
    let d = c.args.draft in
    let k = c.requires.taken in
    (b, draft_ready b d c.touch_stale.new.tables.entries k (c.in_ok-touch_stale.ensures (live_fare b) (live_rule b) k.fares_kept.keyed k.fares_kept.markets))

pub invariant_of-result : goal.invariant_of-result
invariant_of-result c =
    let filing = arc_value c.args.filing in
    let b = filed c.args.self.now filing.actions in
    let d = c.args.draft in
    let k = c.requires.taken in
    let ready = draft_ready b d c.touch_stale.new.tables.entries k (c.in_ok-touch_stale.ensures (live_fare b) (live_rule b) k.fares_kept.keyed k.fares_kept.markets) in
    let sheets = c.place_tables.new.sheets.entries in
    let path = next_view c.args.self.now c.self.inside.timetable c.self.inside.entries c.in_ok-timetable.timetable c.in_ok-entries.entries filing c.as_slice.result.now c.self.view_is c.in_ok-timetable.ensures c.as_slice.ensures c.in_ok-entries.ensures in
    subst (λ v. Keeps v sheets d.rules.entries d.uses.entries d.fare_count d.rule_count (arc_value d.seats)) (sym path)
    (next_keeps c.args.self.now filing d sheets (arc_value d.seats) (subst History c.self.view_is c.self.invariant.history) c.requires.few c.requires.limits c.requires.faultless k (c.in_ok-place_tables.ensures b ready) refl)

pub returns : goal.returns
returns c =
    next_view c.args.self.now c.self.inside.timetable c.self.inside.entries c.in_ok-timetable.timetable c.in_ok-entries.entries (arc_value c.args.filing) c.as_slice.result.now c.self.view_is c.in_ok-timetable.ensures c.as_slice.ensures c.in_ok-entries.ensures
