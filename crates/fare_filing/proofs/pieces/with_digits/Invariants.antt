use Rattle.std.proofs.Common.{◌≡◌, ◌++◌, ◌≤◌, decimal}
use Rattle.fare_filing.proofs.pieces.with_digits.Given as goal

abbrev pub invariant-loop : goal.invariant-loop
invariant-loop l = record {
  text : decimal l.first ++ l.text ≡ decimal l.number ++ l.rest;
  some : 1 ≤ l.number;
  few : l.number ≤ 9999999999;
}
