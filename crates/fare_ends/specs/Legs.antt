-- The classes of seats that are open in all of some flights.
use Rattle.std.specs.Prelude.{◌↔◌, ◌<◌, ℕ, bit_and, List, ◌++◌, IsBitSet}
use Rattle.fare_groups.specs.Groups.{HasClass}
use Rattle.fare_law.specs.declared.flights.Flight.{Flight}
use Rattle.fare_law.specs.declared.requests.Request.{Request}
use Rattle.fare_law.specs.declared.sheets.Leg.{Leg}
use Rattle.fare_law.specs.Book.{Book}
use Rattle.residual_keys.specs.Gathered.{AreLegs}

-- The flights have legs, with the classes that have seats for the party, and these are the classes that are open in all of them.
pub record HasLegs (b : Book) (q : Request) (fs : List Flight) (classes : ℕ) : Type 0 where
  pub legs : List Leg
  pub legs_are : AreLegs b q fs legs
  pub classes_are : (class : ℕ) → class < 32 → IsBitSet classes class ↔ HasClass class legs

-- each of these classes is one of the others
abbrev pub AreAmong : ℕ → ℕ → Type 0
AreAmong few more = (class : ℕ) → class < 32 → IsBitSet few class → IsBitSet more class

-- The classes that are open on a path are those that are open on the flights with which it begins and on those with which it ends.
abbrev pub LegsOfBoth : Type 0
LegsOfBoth = (b : Book) (q : Request) (head tail : List Flight) (here there : ℕ) → HasLegs b q head here → HasLegs b q tail there → HasLegs b q (head ++ tail) (bit_and here there)

-- The classes that are open on some flights are the same, however they are found.
abbrev pub LegsAreOne : Type 0
LegsAreOne = (b : Book) (q : Request) (fs : List Flight) (one other : ℕ) → HasLegs b q fs one → HasLegs b q fs other → AreAmong one other
