use Rattle.std.specs.Arc.{arc_value}
use Rattle.fare_book.proofs.Versions.{copied_more}
use Rattle.fare_book.proofs.book.next.shared.Goals as goal

pub loop-entry-preserved : goal.loop-entry-preserved
loop-entry-preserved c =
    copied_more arc_value c.loop-entry.all c.push.new.self c.args.entries.now c.in_ok-entry.entry c.entry-item.result c.loop-entry.entry-index c.in_ok-push.ensures.items c.in_ok-entry.ensures c.entry-item.is c.loop-entry-test.true c.loop-entry.invariant
