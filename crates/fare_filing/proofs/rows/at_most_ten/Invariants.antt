use Rattle.std.proofs.Common.{◌≡◌, take}
use Rattle.fare_filing.proofs.rows.at_most_ten.Given as goal

abbrev pub invariant-loop-byte : goal.invariant-loop-byte
invariant-loop-byte l = l.bytes ≡ take l.byte-index l.text
