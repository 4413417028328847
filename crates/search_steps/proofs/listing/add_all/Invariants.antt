use Rattle.std.proofs.Common.{◌-◌, ◌≤◌, length, take}
use Rattle.residual_table.specs.Keys.{Grows}
use Rattle.search_steps.specs.Listing.{IsListed}
use Rattle.search_steps.specs.Numbers.{AreStepsOf}
use Rattle.search_steps.proofs.listing.add_all.Given as goal

abbrev pub invariant-loop-at : goal.invariant-loop-at
invariant-loop-at l = record {
  within : l.at ≤ length l.table.entries.now;
  steps : AreStepsOf l.numbers (IsListed l.listing) (take l.at l.table.entries.now) l.steps.items;
  grows : Grows l.initial.numbers l.numbers;
}

abbrev pub decreases-loop-at : goal.decreases-loop-at
decreases-loop-at l = length l.table.entries.now - l.at
