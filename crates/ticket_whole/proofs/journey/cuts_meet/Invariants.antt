use Rattle.std.proofs.Common.{◌↔◌, drop, None, IfSome}
use Rattle.fare_law.specs.Days.{IsInstant}
use Rattle.fare_law.specs.Limits.{IsFlight}
use Rattle.fare_law.specs.Lists.{Each}
use Rattle.ticket_whole.specs.Cuts.{CutsMeet}
use Rattle.ticket_whole.proofs.journey.cuts_meet.Given as goal

abbrev pub invariant-loop-slice : goal.invariant-loop-slice
invariant-loop-slice l = record {
  same : CutsMeet l.book l.demand None l.slices l.flights ↔ CutsMeet l.book l.demand l.arrival (drop l.slice-index l.slices) l.rest;
  flights : Each IsFlight l.rest;
  arrived : IfSome l.arrival IsInstant;
}
