use Rattle.std.proofs.Common.{◌≡◌, ◌≤◌, ◌*◌, ◌++◌, length}
use Rattle.fare_filing.specs.Text.{pairs_from}
use Rattle.fare_filing.proofs.SeatLemmas.{left}
use Rattle.fare_filing.proofs.seats.seat_pairs.Given as goal

abbrev pub invariant-loop-class : goal.invariant-loop-class
invariant-loop-class l = record {
  rest : l.text ++ left l.seats l.class ≡ pairs_from 65 l.seats;
  room : length l.text ≤ 2 * l.class;
}
