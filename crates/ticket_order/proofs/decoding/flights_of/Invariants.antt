use Rattle.std.proofs.Common.{◌≡◌, ◌<◌, ◌^◌, length, take}
use Rattle.fare_law.specs.Lists.{Each}
use Rattle.ticket_order.proofs.decoding.flights_of.Given as goal

abbrev pub invariant-loop-number : goal.invariant-loop-number
invariant-loop-number l = record {
  read : l.flights ≡ take l.number-index l.numbers;
  each : length l.flights ≡ l.number-index;
  fit : Each (λ n. n < 2 ^ 32) l.flights;
}
