use Rattle.std.proofs.Common.{map, refl}
use Rattle.std.specs.Arc.{arc_value}
use Rattle.fare_law.specs.Book.{Book, live_fare, live_rule}
use Rattle.fare_book.proofs.Versions.{draft_closes, draft_ready}
use Rattle.fare_book.proofs.book.open_book.OpenBook.close.Goals as goal

pub place_tables-requires : goal.place_tables-requires
place_tables-requires c =
    let b : Book = record { timetable = arc_value c.self.inside.timetable; entries = map arc_value c.self.inside.entries } in
    let k = c.self.invariant.drafts in
    (b, draft_ready b c.self.inside.draft c.touch_stale.new.tables.entries k (c.in_ok-touch_stale.ensures (live_fare b) (live_rule b) k.fares_kept.keyed k.fares_kept.markets))

pub invariant_of-result : goal.invariant_of-result
invariant_of-result c =
    let b : Book = record { timetable = arc_value c.self.inside.timetable; entries = map arc_value c.self.inside.entries } in
    let k = c.self.invariant.drafts in
    let ready = draft_ready b c.self.inside.draft c.touch_stale.new.tables.entries k (c.in_ok-touch_stale.ensures (live_fare b) (live_rule b) k.fares_kept.keyed k.fares_kept.markets) in
    draft_closes b c.self.inside.draft c.place_tables.new.sheets.entries (arc_value c.self.inside.draft.seats) c.self.invariant.history k (c.in_ok-place_tables.ensures b ready) refl
