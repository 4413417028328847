use Rattle.std.specs.Arc.{arc_value}
use Rattle.fare_book.proofs.Versions.{entry_more}
use Rattle.fare_book.proofs.book.next.with_entry.Goals as goal

pub returns : goal.returns
returns c = entry_more arc_value c.in_ok-all.all c.push.new.self c.args.entries.now c.args.filing c.in_ok-push.ensures.items c.in_ok-all.ensures
