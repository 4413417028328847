use Rattle.std.proofs.Common.{take}
use Rattle.component_table.specs.declared.landed.Landing.{Landing}
use Rattle.fare_ends.specs.Legs.{AreAmong}
use Rattle.fare_law.specs.Lists.{IsIn}
use Rattle.component_table.proofs.landed.union_of.Given as goal

abbrev pub invariant-loop-landing : goal.invariant-loop-landing
invariant-loop-landing l = (x : Landing) → IsIn x (take l.landing-index l.landings) → AreAmong x.classes l.classes
