use Rattle.std.proofs.Common.{◌≡◌, ◌≤◌, ◌-◌, length}
use Rattle.fare_law.specs.declared.limits.TheConstants.{MOST_COMPONENTS}
use Rattle.certificate_text.specs.LineReading.{moves_in}
use Rattle.certificate_text.proofs.WordLemmas.{moves_after}
use Rattle.certificate_text.proofs.words.moves_of.Given as goal

-- with the moves so far before them, the moves that are left are all of them
abbrev pub invariant-loop-rest : goal.invariant-loop-rest
invariant-loop-rest l = record {
  few : length l.moves ≤ MOST_COMPONENTS;
  left : moves_after l.moves (moves_in (MOST_COMPONENTS - length l.moves) l.rest) ≡ moves_in MOST_COMPONENTS l.text;
}

abbrev pub decreases-loop-rest : goal.decreases-loop-rest
decreases-loop-rest l = MOST_COMPONENTS - length l.moves
