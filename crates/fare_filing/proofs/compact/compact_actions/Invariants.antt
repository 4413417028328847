use Rattle.std.proofs.Common.{◌≡◌, length}
use Rattle.fare_law.specs.FilingLimits.{IsAction}
use Rattle.fare_law.specs.Lists.{Each}
use Rattle.fare_filing.specs.Compact.{Begun}
use Rattle.fare_filing.proofs.compact.compact_actions.Given as goal

abbrev pub invariant-loop : goal.invariant-loop
invariant-loop l = record {
  begun : Begun l.text l.actions l.rest;
  limits : Each IsAction l.actions;
  count : length l.actions ≡ l.counter;
}
