use Rattle.std.proofs.Common.{◌≡◌, length}
use Rattle.fare_law.specs.FilingLimits.{IsAction}
use Rattle.fare_law.specs.Lists.{Each}
use Rattle.fare_filing.proofs.ActionLemmas.{after, left}
use Rattle.fare_filing.proofs.reading.each_action.Given as goal

abbrev pub invariant-loop-item : goal.invariant-loop-item
invariant-loop-item l = record {
  rest : after l.actions (left l.items l.item-index) ≡ left l.items 0;
  limits : Each IsAction l.actions;
  count : length l.actions ≡ l.item-index;
}
