use Rattle.std.proofs.Common.{List, take}
use Rattle.fare_ends.specs.Masks.{AreMasks}
use Rattle.fare_law.specs.declared.flights.Flight.{Flight}
use Rattle.fare_law.specs.Parts.{Numbers}
use Rattle.fare_ends.proofs.masks.Masks.classes_of.Given as goal
use Rattle.fare_ends.specs.Legs.{HasLegs}

abbrev pub invariant-loop-number : goal.invariant-loop-number
invariant-loop-number l = record {
  masks : AreMasks l.book l.request l.self;
  classes : (fs : List Flight) → Numbers l.book (take l.number-index l.numbers) fs → HasLegs l.book l.request fs l.classes;
}
