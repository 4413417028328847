use Rattle.std.proofs.Common.{◌≡◌, ◌<◌, ℕ, length, slice_index_or}
use Rattle.fare_law.specs.Sheets.{HasRuleOf}
use Rattle.fare_law.proofs.market.rule_rows.Given as goal

abbrev pub invariant-loop-at : goal.invariant-loop-at
invariant-loop-at l = record {
  many : length l.places ≡ l.at;
  each : (i : ℕ) → i < l.at → HasRuleOf l.rows i (slice_index_or l.places i 0);
}
