use Rattle.std.proofs.Common.{◌≡◌, ◌≤◌, ◌-◌, length}
use Rattle.certificate_text.specs.LineReading.{flights_in}
use Rattle.certificate_text.proofs.WordLemmas.{flights_after}
use Rattle.certificate_text.proofs.words.flights_of.Given as goal

-- with the flights so far before them, the flights that are left are all of them
abbrev pub invariant-loop-rest : goal.invariant-loop-rest
invariant-loop-rest l = record {
  few : length l.flights ≤ l.count;
  left : flights_after l.flights (flights_in (l.count - length l.flights) l.rest) ≡ flights_in l.count l.text;
}

abbrev pub decreases-loop-rest : goal.decreases-loop-rest
decreases-loop-rest l = l.count - length l.flights
