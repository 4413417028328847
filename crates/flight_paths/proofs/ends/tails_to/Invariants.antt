use Rattle.std.proofs.Common.{◌≡◌, ◌++◌, ◌<◌, drop, filter, length}
use Rattle.fare_law.specs.Lists.{Each}
use Rattle.flight_paths.specs.Heads.{chosen, ends_wanted}
use Rattle.flight_paths.proofs.ends.tails_to.Given as goal

abbrev pub invariant-loop-number : goal.invariant-loop-number
invariant-loop-number g l =
    record {
      within : Each (λ n. n < length l.tails) l.numbers;
      those : chosen l.tails l.numbers ++ filter (ends_wanted l.schedule.flights (g.E.Ends.wanted l.ends)) (drop l.number l.tails) ≡ filter (ends_wanted l.schedule.flights (g.E.Ends.wanted l.ends)) l.tails;
    }
