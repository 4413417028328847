use Rattle.std.proofs.Common.{◌≡◌, ℕ, length}
use Rattle.flight_paths.specs.Marks.{AreMarks}
use Rattle.flight_paths.proofs.marks.marks_of.Given as goal

abbrev pub invariant-loop-tail : goal.invariant-loop-tail
invariant-loop-tail l = record {
  many : ◌≡◌ {A = ℕ} (length l.marks) l.tail-index;
  are : AreMarks l.schedule.flights l.tails l.marks;
}
