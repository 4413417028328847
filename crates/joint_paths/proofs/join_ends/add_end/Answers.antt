use Rattle.std.proofs.Common.{[], sym, inr, append-nil}
use Rattle.joint_paths.proofs.JoinFacts.{lacks_empty}
use Rattle.joint_paths.proofs.join_ends.add_end.Goals as goal

pub returns-then-is_empty-clause-added : goal.returns-then-is_empty-clause-added
returns-then-is_empty-clause-added c = record {
  more = [];
  joined = sym (append-nil c.args.found.now.items);
  each = tt;
  has = inr (lacks_empty c.args.case.now.book.now c.find.new.self c.args.key c.args.end.now.place c.in_ok-fare_end.fare_end c.in_ok-fare_end.ensures.end (c.is_empty.ensures.0 c.if-is_empty.true));
}
