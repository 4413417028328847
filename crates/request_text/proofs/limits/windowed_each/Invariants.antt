use Rattle.fare_law.specs.Lists.{Each}
use Rattle.std.proofs.Common.{◌≡◌, length, drop}
use Rattle.request_text.specs.Steps.{each_windowed}
use Rattle.fare_law.specs.Limits.{IsSlice}
use Rattle.request_text.proofs.WindowLemmas.{after}
use Rattle.request_text.proofs.limits.windowed_each.Given as goal

abbrev pub invariant-loop-slice : goal.invariant-loop-slice
invariant-loop-slice l = record {
  rest : after l.found (each_windowed (drop l.slice-index l.slices)) ≡ each_windowed l.slices;
  windows : Each IsSlice l.found;
  count : length l.found ≡ l.slice-index;
}
