use Rattle.std.proofs.Common.{◌≡◌, length, take}
use Rattle.seat_classes.proofs.GivenLemmas.{Holds}
use Rattle.seat_classes.proofs.seats.Seats.build.Given as goal

abbrev pub invariant-loop-row : goal.invariant-loop-row
invariant-loop-row l = record {
  holds : Holds (take l.row-index l.rows) l.seats.entries;
  many : length l.seats.entries ≡ l.row-index;
}
